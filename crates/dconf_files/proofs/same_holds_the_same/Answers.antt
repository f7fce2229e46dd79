use Rattle.dconf_files.proofs.SameLaws.{same_holds}
use Rattle.dconf_files.proofs.same_holds_the_same.Goals as goal

pub returns : goal.returns
returns c = same_holds
