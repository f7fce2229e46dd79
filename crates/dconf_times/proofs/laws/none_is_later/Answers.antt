use Rattle.dconf_times.proofs.LatestLaws.{none_is_later}
use Rattle.dconf_times.proofs.laws.none_is_later.Goals as goal

pub returns : goal.returns
returns c = none_is_later
