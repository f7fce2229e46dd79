use Rattle.gv_syntax.proofs.NumberedFaults.{too_many}
use Rattle.gv_syntax.proofs.parsing.tree.Goals as goal

pub returns-in-Some-clause-fault : goal.returns-in-Some-clause-fault
returns-in-Some-clause-fault c = too_many c.args.length _ _ _ c.in-Some.token _ _ c.into_iter-rest.ensures.rest c.refused-in-Some.ensures _ c.in_ok-root.ensures.value c.in-Some.ensures.items
