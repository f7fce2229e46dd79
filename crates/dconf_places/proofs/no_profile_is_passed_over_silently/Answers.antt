use Rattle.dconf_places.proofs.Holding.{none_is_passed_over_silently}
use Rattle.dconf_places.proofs.no_profile_is_passed_over_silently.Goals as goal

pub returns : goal.returns
returns c = none_is_passed_over_silently
