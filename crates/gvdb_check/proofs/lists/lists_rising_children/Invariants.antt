use Rattle.std.proofs.Common.{ℕ, ◌<◌}
use Rattle.dconf_model.specs.Sound.{IsChild, listed}
use Rattle.gvdb_format.specs.Tables.{region}
use Rattle.gvdb_check.proofs.lists.lists_rising_children.Given as goal

-- the numbers so far are children, and each is above those before it
abbrev pub invariant-loop-bytes : goal.invariant-loop-bytes
invariant-loop-bytes l = record {
  alone : (k : ℕ) → k < l.bytes-index → IsChild (region l.fn.table) l.i (listed (region l.fn.table) l.i k);
  rising : (m : ℕ) → m < l.bytes-index → (k : ℕ) → k < m → listed (region l.fn.table) l.i k < listed (region l.fn.table) l.i m;
  below : (k : ℕ) → k < l.bytes-index → listed (region l.fn.table) l.i k < l.least;
}
