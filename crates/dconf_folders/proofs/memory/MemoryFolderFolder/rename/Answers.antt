use Rattle.std.proofs.Common.{rules}
use Rattle.dconf_folders.proofs.memory.MemoryFolderFolder.rename.Goals as goal

pub returns-else-is_err-clause-ok : goal.returns-else-is_err-clause-ok
returns-else-is_err-clause-ok c = search rules
