use Rattle.dconf_waiting.proofs.FateLaws.{nothing_is_lost}
use Rattle.dconf_waiting.proofs.nothing_is_lost.Goals as goal

pub returns : goal.returns
returns c = nothing_is_lost
