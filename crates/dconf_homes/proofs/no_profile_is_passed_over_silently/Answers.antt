use Rattle.dconf_homes.proofs.HomeProofs.{none_is_silent}
use Rattle.dconf_homes.proofs.no_profile_is_passed_over_silently.Goals as goal

pub returns : goal.returns
returns c = none_is_silent
