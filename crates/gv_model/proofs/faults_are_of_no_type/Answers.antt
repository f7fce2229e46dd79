use Rattle.gv_model.proofs.TypeFaultLaws.{faulty_is_no_type}
use Rattle.gv_model.proofs.faults_are_of_no_type.Goals as goal

pub returns : goal.returns
returns c = faulty_is_no_type
