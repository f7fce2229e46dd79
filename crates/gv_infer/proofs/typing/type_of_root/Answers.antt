use Rattle.gv_infer.proofs.ContentLaws.{stops_whole, fault_whole}
use Rattle.gv_infer.proofs.typing.type_of_root.Goals as goal

pub returns-in_err-check_contents-in-Err-clause-fault : goal.returns-in_err-check_contents-in-Err-clause-fault
returns-in_err-check_contents-in-Err-clause-fault c =
    stops_whole c.from_residual.result c.args.root.now c.in_err-check_contents-in-Err.field-0.0 c.in_err-check_contents-in-Err.ensures.fault c.from_residual.ensures.1

pub returns-in_ok-check_contents-in-Err-clause-fault : goal.returns-in_ok-check_contents-in-Err-clause-fault
returns-in_ok-check_contents-in-Err-clause-fault c = fault_whole c.args.root.now c.in-Err.fault c.in_ok-check_contents-in-Err.ensures.typed c.in-Err.ensures.fault
