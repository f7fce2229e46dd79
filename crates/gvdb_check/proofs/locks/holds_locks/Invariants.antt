use Rattle.std.proofs.Common.{ℕ, ◌<◌}
use Rattle.dconf_model.specs.Sound.{IsLock}
use Rattle.gvdb_format.specs.Tables.{region}
use Rattle.gvdb_check.proofs.locks.holds_locks.Given as goal

-- each item before this one is a lock
abbrev pub invariant-loop-i : goal.invariant-loop-i
invariant-loop-i l = (j : ℕ) → j < l.i → IsLock (region l.fn.table) j
