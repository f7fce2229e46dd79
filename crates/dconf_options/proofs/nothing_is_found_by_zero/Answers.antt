use Rattle.dconf_options.proofs.StatusProofs.{nothing_is_found_by_zero}
use Rattle.dconf_options.proofs.nothing_is_found_by_zero.Goals as goal

pub returns : goal.returns
returns c = nothing_is_found_by_zero
