use Rattle.std.proofs.Common.{rules}
use Rattle.dconf_folders.proofs.parent.folder_of.Goals as goal

pub returns-in_default : goal.returns-in_default
returns-in_default c = search rules
