use Rattle.gv_model.proofs.ValueBound.{nodes-decode}
use Rattle.gv_model.proofs.few_values.Goals as goal

pub returns : goal.returns
returns c = nodes-decode
