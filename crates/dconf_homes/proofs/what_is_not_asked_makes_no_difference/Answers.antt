use Rattle.dconf_homes.proofs.LookProofs.{what_is_not_asked}
use Rattle.dconf_homes.proofs.what_is_not_asked_makes_no_difference.Goals as goal

pub returns : goal.returns
returns c = what_is_not_asked
