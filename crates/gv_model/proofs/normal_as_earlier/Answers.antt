use Rattle.gv_model.proofs.EarlierLaws.{same_bytes, same_value}
use Rattle.gv_model.proofs.normal_as_earlier.Goals as goal

pub returns-clause-normal : goal.returns-clause-normal
returns-clause-normal c = same_bytes

pub returns-clause-value : goal.returns-clause-value
returns-clause-value c = same_value
