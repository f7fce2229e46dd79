use Rattle.std.proofs.Common.{◌*◌, suc, length}
use Rattle.gv_layout.proofs.InfoSteps.{IsTupleWalk}
use Rattle.gv_layout.proofs.size.+infos.Given as goal

abbrev pub decreases-info_at : goal.decreases-info_at
decreases-info_at l = suc (2 * length l.text.now)

abbrev pub decreases-tuple_at : goal.decreases-tuple_at
decreases-tuple_at l = 2 * length l.text.now

abbrev pub decreases-entry_at : goal.decreases-entry_at
decreases-entry_at l = 2 * length l.text.now

abbrev pub invariant-tuple_at-loop-rest : goal.invariant-tuple_at-loop-rest
invariant-tuple_at-loop-rest l = IsTupleWalk l.text l.rest l.alignment l.end

abbrev pub decreases-tuple_at-loop-rest : goal.decreases-tuple_at-loop-rest
decreases-tuple_at-loop-rest l = length l.rest
