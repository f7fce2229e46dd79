use Rattle.std.proofs.Common.{rules}
use Rattle.dconf_folders.proofs.memory.MemoryFolder.new.Goals as goal

pub returns-clause-succeeds : goal.returns-clause-succeeds
returns-clause-succeeds c = search rules
