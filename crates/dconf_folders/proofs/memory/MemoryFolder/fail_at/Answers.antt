use Rattle.std.proofs.Common.{rules}
use Rattle.dconf_folders.proofs.memory.MemoryFolder.fail_at.Goals as goal

pub returns-clause-fails : goal.returns-clause-fails
returns-clause-fails c = search rules
