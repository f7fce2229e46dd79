use Rattle.std.proofs.Common.{ℕ, ◌≢◌, ◌≤◌, ◌<◌}
use Rattle.dconf_model.specs.Table.{item}
use Rattle.gvdb_format.specs.Tables.{region}
use Rattle.gvdb_check.proofs.one_pass.is_first_of_hash.Given as goal

-- no item of the bucket that was looked at has the hash
abbrev pub invariant-loop-j : goal.invariant-loop-j
invariant-loop-j l = (k : ℕ) → k < l.j → l.first ≤ k → (item (region l.fn.table) k).hash ≢ (item (region l.fn.table) l.i).hash
