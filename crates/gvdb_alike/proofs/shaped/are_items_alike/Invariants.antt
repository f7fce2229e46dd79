use Rattle.std.proofs.Common.{◌<◌, ℕ}
use Rattle.gvdb_read.specs.Tables.{region}
use Rattle.gvdb_alike.specs.SameBytes.{IsShapeKept}
use Rattle.gvdb_alike.proofs.shaped.are_items_alike.Given as goal

-- those before this one are kept
abbrev pub invariant-loop-i : goal.invariant-loop-i
invariant-loop-i l = (k : ℕ) → k < l.i → IsShapeKept (region l.patch.table) (region l.patch.other) k
