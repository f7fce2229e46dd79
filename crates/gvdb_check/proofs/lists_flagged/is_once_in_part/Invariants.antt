use Rattle.std.proofs.Common.{ℕ, ◌<◌, length}
use Rattle.dconf_model.specs.Sound.{listed}
use Rattle.gvdb_check.specs.Counted.{IsNewInPart}
use Rattle.gvdb_check.specs.Flags.{IsFlagged}
use Rattle.gvdb_format.specs.Tables.{region}
use Rattle.gvdb_check.proofs.lists_flagged.is_once_in_part.Given as goal

-- of the numbers so far, those of the part are flagged, and none of them occurs twice
abbrev pub invariant-loop-bytes : goal.invariant-loop-bytes
invariant-loop-bytes l = record {
  some : 0 < length l.seen;
  flagged : (k : ℕ) → k < l.bytes-index → IsFlagged l.seen l.part l.parts (listed (region l.fn.table) l.i k);
  once : (m : ℕ) → m < l.bytes-index → IsNewInPart (region l.fn.table) l.i l.part l.parts m;
}
