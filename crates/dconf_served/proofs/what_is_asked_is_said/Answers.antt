use Rattle.dconf_served.proofs.ServedLaws.{what_is_asked_is_said}
use Rattle.dconf_served.proofs.what_is_asked_is_said.Goals as goal

pub returns : goal.returns
returns c = what_is_asked_is_said
