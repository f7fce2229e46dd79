use Rattle.dconf_made.proofs.NeedLaws.{nothing_is_lost}
use Rattle.dconf_made.proofs.nothing_is_lost.Goals as goal

pub returns : goal.returns
returns c = nothing_is_lost
