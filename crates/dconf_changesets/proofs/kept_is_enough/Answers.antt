use Rattle.dconf_changesets.proofs.DifferenceLaws.{kept_is_enough}
use Rattle.dconf_changesets.proofs.kept_is_enough.Goals as goal

pub returns : goal.returns
returns c = kept_is_enough
