use Rattle.std.proofs.Common.{◌≡◌}
use Rattle.std.specs.FinMap.{empty}
use Rattle.gvdb_read.specs.Tables.{region}
use Rattle.gvdb_write.proofs.SalvagedSteps.{AreLowestFrom}
use Rattle.gvdb_write.proofs.salvaged.salvaged_values.Given as goal

-- the values are the lowest of the items from this one on
abbrev pub invariant-loop-i : goal.invariant-loop-i
invariant-loop-i l = record {
  lowest : AreLowestFrom (region l.fn.root) l.i l.values;
  no_locks : l.values.locks ≡ empty;
}

abbrev pub decreases-loop-i : goal.decreases-loop-i
decreases-loop-i l = l.i
