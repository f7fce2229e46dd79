use Rattle.dconf_served.proofs.ServedLaws.{what_waits_is_bounded}
use Rattle.dconf_served.proofs.what_waits_is_bounded.Goals as goal

pub returns : goal.returns
returns c = what_waits_is_bounded
