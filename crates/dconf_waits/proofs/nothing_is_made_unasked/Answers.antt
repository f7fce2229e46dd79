use Rattle.dconf_waits.proofs.TakingProofs.{nothing_is_made_unasked}
use Rattle.dconf_waits.proofs.nothing_is_made_unasked.Goals as goal

pub returns : goal.returns
returns c = nothing_is_made_unasked
