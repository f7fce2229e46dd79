use Rattle.dconf_roles.proofs.FindingLaws.{no_alarm_is_false}
use Rattle.dconf_roles.proofs.no_alarm_is_false.Goals as goal

pub returns : goal.returns
returns c = no_alarm_is_false
