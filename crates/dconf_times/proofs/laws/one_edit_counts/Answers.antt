use Rattle.dconf_times.proofs.TurnLaws.{one_counts}
use Rattle.dconf_times.proofs.laws.one_edit_counts.Goals as goal

pub returns : goal.returns
returns c = one_counts
