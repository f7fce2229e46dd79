use Rattle.std.proofs.Common.{ℕ, ◌<◌, ◌≡◌, length}
use Rattle.std.specs.Prelude.{◌%◌}
use Rattle.dconf_model.specs.Table.{item}
use Rattle.dconf_model.specs.Searchable.{IsOnlyNamed}
use Rattle.gvdb_check.specs.Flags.{IsFlagged}
use Rattle.gvdb_format.specs.Tables.{region}
use Rattle.gvdb_check.proofs.once_by_hash.part_is_once.Given as goal

-- of the items so far, the hashes of the part are flagged, and each item of it is the only one of its name
abbrev pub invariant-loop-i : goal.invariant-loop-i
invariant-loop-i l = record {
  some : 0 < length l.seen;
  flagged : (k : ℕ) → k < l.i → IsFlagged l.seen l.part l.parts (item (region l.fn.table) k).hash;
  only : (k : ℕ) → k < l.i → (item (region l.fn.table) k).hash % l.parts ≡ l.part → IsOnlyNamed (region l.fn.table) k;
}
