use Rattle.std.proofs.Common.{rules}
use Rattle.dconf_folders.proofs.memory.MemoryFolderFolder.sync_folder.Goals as goal

pub returns-clause-ok : goal.returns-clause-ok
returns-clause-ok c = search rules
