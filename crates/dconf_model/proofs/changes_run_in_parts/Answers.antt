use Rattle.dconf_model.proofs.WorkedLayers.{runs_in_parts}
use Rattle.dconf_model.proofs.changes_run_in_parts.Goals as goal

pub returns : goal.returns
returns c = runs_in_parts
