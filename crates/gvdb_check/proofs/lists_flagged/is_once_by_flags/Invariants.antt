use Rattle.std.proofs.Common.{ℕ, ◌<◌}
use Rattle.gvdb_check.specs.Counted.{IsOnceInPart}
use Rattle.gvdb_format.specs.Tables.{region}
use Rattle.gvdb_check.proofs.lists_flagged.is_once_by_flags.Given as goal

-- in the parts before this one no number occurs twice
abbrev pub invariant-loop-part : goal.invariant-loop-part
invariant-loop-part l = (p : ℕ) → p < l.part → IsOnceInPart (region l.fn.table) l.i p l.parts
