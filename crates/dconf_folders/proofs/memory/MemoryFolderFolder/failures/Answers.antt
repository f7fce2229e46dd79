use Rattle.std.specs.Prelude.{refl}
use Rattle.dconf_folders.proofs.memory.MemoryFolderFolder.failures.Goals as goal

pub returns : goal.returns
returns c = refl
