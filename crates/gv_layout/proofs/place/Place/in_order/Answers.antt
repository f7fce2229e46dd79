use Rattle.std.proofs.Common.{rules}
use Rattle.gv_layout.proofs.place.Place.in_order.Goals as goal

pub returns-then-to-body-clause-order : goal.returns-then-to-body-clause-order
returns-then-to-body-clause-order c = search rules

pub returns-then-to-body-clause-place : goal.returns-then-to-body-clause-place
returns-then-to-body-clause-place c = search rules
