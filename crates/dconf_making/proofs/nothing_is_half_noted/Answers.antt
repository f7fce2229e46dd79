use Rattle.dconf_making.proofs.MakingLaws.{nothing_half_noted}
use Rattle.dconf_making.proofs.nothing_is_half_noted.Goals as goal

pub returns : goal.returns
returns c = nothing_half_noted
