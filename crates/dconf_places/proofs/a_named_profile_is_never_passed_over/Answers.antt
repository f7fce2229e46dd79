use Rattle.dconf_places.proofs.Holding.{named_is_never_passed_over}
use Rattle.dconf_places.proofs.a_named_profile_is_never_passed_over.Goals as goal

pub returns : goal.returns
returns c = named_is_never_passed_over
