use Rattle.std.proofs.Common.{◌≡◌, ◌+◌, ◌<◌, ℕ, take}
use Rattle.std.specs.Prelude.{slice_index}
use Rattle.dconf_model.specs.Bytes.{hash_of}
use Rattle.dconf_model.specs.Table.{value_kind}
use Rattle.gvdb_read.specs.Lookups.{IsFound, name_text}
use Rattle.gvdb_read.specs.Tables.{region}
use Rattle.gvdb_read.proofs.table.Table.covers.Given as goal

-- no prefix before this place has a value
abbrev pub invariant-loop-i : goal.invariant-loop-i
invariant-loop-i l = record {
  hash : l.hash ≡ hash_of (take l.i (name_text l.fn.path));
  none : (k : ℕ) → k < l.i → slice_index (name_text l.fn.path) k ≡ 47 → ¬ IsFound (region l.fn.self) (take (k + 1) (name_text l.fn.path)) value_kind;
}
