use Rattle.gv_infer.proofs.ContentLaws.{stops_whole, whole_chosen, whole_at_fault}
use Rattle.gv_infer.proofs.typing.type_of.Goals as goal

pub returns-in_err-check_contents-clause-fault : goal.returns-in_err-check_contents-clause-fault
returns-in_err-check_contents-clause-fault c = stops_whole c.from_residual.result _ c.in_err-check_contents.field-0.0 (rw c.root-root.ensures.root at c.in_err-check_contents.ensures.fault) c.from_residual.ensures.1

pub returns-clause-chosen : goal.returns-clause-chosen
returns-clause-chosen c = whole_chosen c.type_of_node.result _ (rw c.root-root.ensures.root at c.in_ok-check_contents.ensures.typed) (rw c.root-root.ensures.root at c.type_of_node.ensures.chosen)

pub returns-clause-fault : goal.returns-clause-fault
returns-clause-fault c = whole_at_fault c.type_of_node.result _ (rw c.root-root.ensures.root at c.in_ok-check_contents.ensures.typed) (rw c.root-root.ensures.root at c.type_of_node.ensures.fault)
