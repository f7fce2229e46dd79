use Rattle.gv_model.proofs.OneFault.{one_fault}
use Rattle.gv_model.proofs.one_fault.Goals as goal

pub returns : goal.returns
returns c = one_fault
