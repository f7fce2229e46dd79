use Rattle.dconf_times.proofs.TurnLaws.{is_whole}
use Rattle.dconf_times.proofs.laws.a_change_is_whole.Goals as goal

pub returns : goal.returns
returns c = is_whole
