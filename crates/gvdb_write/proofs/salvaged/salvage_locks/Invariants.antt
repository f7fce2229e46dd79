use Rattle.std.proofs.Common.{◌≡◌}
use Rattle.gvdb_read.specs.Tables.{region}
use Rattle.gvdb_write.proofs.SalvagedSteps.{AreLockedBelow}
use Rattle.gvdb_write.proofs.salvaged.salvage_locks.Given as goal

-- what the items before this one spell is locked
abbrev pub invariant-loop-i : goal.invariant-loop-i
invariant-loop-i l = record {
  locks : AreLockedBelow (region l.fn.locks) l.i l.fn.map l.map;
  values : l.map.values ≡ l.fn.map.values;
}
