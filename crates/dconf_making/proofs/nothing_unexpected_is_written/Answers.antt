use Rattle.dconf_making.proofs.MakingLaws.{nothing_unexpected}
use Rattle.dconf_making.proofs.nothing_unexpected_is_written.Goals as goal

pub returns : goal.returns
returns c = nothing_unexpected
