use Rattle.dconf_times.proofs.ResetLaws.{are_kept}
use Rattle.dconf_times.proofs.laws.moments_are_kept.Goals as goal

pub returns : goal.returns
returns c = are_kept
