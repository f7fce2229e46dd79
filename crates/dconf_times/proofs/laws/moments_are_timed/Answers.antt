use Rattle.dconf_times.proofs.MomentLaws.{are_timed}
use Rattle.dconf_times.proofs.laws.moments_are_timed.Goals as goal

pub returns : goal.returns
returns c = are_timed
