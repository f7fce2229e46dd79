use Rattle.std.proofs.Common.{ℕ, ◌+◌, ◌-◌, ◌<◌, ◌≤◌, ◌≡◌}
use Rattle.std.specs.Prelude.{IsFalse, IsTrue}
use Rattle.dconf_model.specs.Table.{bucket}
use Rattle.gvdb_format.specs.Tables.{region}
use Rattle.gvdb_check.proofs.buckets.has_buckets.Given as goal

-- the buckets so far rise, up to the last of them, or one falls
abbrev pub invariant-loop-k : goal.invariant-loop-k
invariant-loop-k l = record {
  first : l.k ≡ 0 → l.last ≡ 0;
  is_last : 0 < l.k → l.last ≡ bucket (region l.fn.table) (l.k - 1);
  rising : IsFalse l.falls → (b : ℕ) → b + 1 < l.k → bucket (region l.fn.table) b ≤ bucket (region l.fn.table) (b + 1);
  below : IsFalse l.falls → (b : ℕ) → b < l.k → bucket (region l.fn.table) b ≤ l.last;
  falls : IsTrue l.falls → (b : ℕ) × (b + 1 < l.k) × (bucket (region l.fn.table) (b + 1) < bucket (region l.fn.table) b);
}
