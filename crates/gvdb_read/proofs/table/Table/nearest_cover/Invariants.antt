use Rattle.std.proofs.Common.{◌≡◌, ◌<◌, ◌≤◌, ℕ, take}
use Rattle.std.specs.Prelude.{IfSome, unwrap_or}
use Rattle.dconf_model.specs.Bytes.{hash_of}
use Rattle.gvdb_read.specs.Lookups.{IsCover}
use Rattle.gvdb_read.specs.Tables.{region}
use Rattle.gvdb_read.proofs.table.Table.nearest_cover.Given as goal

abbrev pub invariant-loop-i : goal.invariant-loop-i
invariant-loop-i l = record {
  hash : l.hash ≡ hash_of (take l.i l.path);
  found : IfSome l.nearest (IsCover (region l.fn.self) l.path);
  nearest : (n : ℕ) → unwrap_or l.nearest 0 < n → n ≤ l.i → ¬ IsCover (region l.fn.self) l.path n;
}
