use Rattle.std.proofs.Common.{rules}
use Rattle.gv_view.proofs.children.ChildrenIterator.next.Goals as goal

pub returns-in-Placed-clause-steps : goal.returns-in-Placed-clause-steps
returns-in-Placed-clause-steps c = search rules

pub returns-in-Placed-clause-goes : goal.returns-in-Placed-clause-goes
returns-in-Placed-clause-goes c = search rules
