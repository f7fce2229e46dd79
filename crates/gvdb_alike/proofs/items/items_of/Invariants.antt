use Rattle.std.proofs.Common.{◌≡◌, ◌<◌, ◌≤◌, ◌⊎◌, ℕ}
use Rattle.gvdb_read.specs.Tables.{region}
use Rattle.gvdb_alike.specs.NamesAlike.{AreStepsAlike}
use Rattle.gvdb_alike.specs.ValuesAlike.{value_at}
use Rattle.gvdb_alike.proofs.items.items_of.Given as goal

-- those before this one are named alike, and outside of the span they have the same values
abbrev pub invariant-loop-i : goal.invariant-loop-i
invariant-loop-i l = record {
  steps : (k : ℕ) → k < l.i → AreStepsAlike (region l.patch.table) (region l.patch.other) k;
  alike : (k : ℕ) → k < l.i → (k < l.first) ⊎ (l.end ≤ k) → value_at (region l.patch.table) k ≡ value_at (region l.patch.other) k;
  counted : l.end ≤ l.i;
}
