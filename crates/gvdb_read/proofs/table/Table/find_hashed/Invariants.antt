use Rattle.std.proofs.Common.{◌+◌, ◌*◌, ◌-◌, ◌<◌, ◌≤◌, ℕ, length}
use Rattle.dconf_model.specs.Bytes.{hash_of}
use Rattle.dconf_model.specs.Search.{Fits, span_start, span_size}
use Rattle.gvdb_format.specs.Kinds.{letter_of}
use Rattle.gvdb_read.specs.Tables.{region}
use Rattle.gvdb_read.proofs.table.Table.find_hashed.Given as goal

-- no item before this one fits
abbrev pub invariant-loop-i : goal.invariant-loop-i
invariant-loop-i l = record {
  none : (j : ℕ) → j < l.i → Fits (region l.fn.self) l.name (letter_of l.kind) j → ⊥;
  within : l.i - span_start (region l.fn.self) (hash_of l.name) ≤ span_size (region l.fn.self) (hash_of l.name);
  cost : l.steps ≤ l.fn.steps + (l.i - span_start (region l.fn.self) (hash_of l.name)) * (length l.name + 1);
  grows : l.fn.steps ≤ l.steps;
}
