use Rattle.dconf_served.proofs.ServedLaws.{who_waits_is_told_at_the_end}
use Rattle.dconf_served.proofs.who_waits_is_told_at_the_end.Goals as goal

pub returns : goal.returns
returns c = who_waits_is_told_at_the_end
