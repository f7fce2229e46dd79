use Rattle.dconf_making.proofs.KnowingLaws.{nothing_known_is_lost}
use Rattle.dconf_making.proofs.nothing_known_is_lost.Goals as goal

pub returns : goal.returns
returns c = nothing_known_is_lost
