use Rattle.std.proofs.Common.{◌<◌, ℕ}
use Rattle.dconf_model.specs.Salvaging.{IsOpenLocks}
use Rattle.gvdb_read.specs.Tables.{region}
use Rattle.gvdb_write.proofs.salvaged.lowest_locks.Given as goal

-- no item before this one is a table of locks that opens
abbrev pub invariant-loop-i : goal.invariant-loop-i
invariant-loop-i l = (j : ℕ) → j < l.i → IsOpenLocks (region l.fn.root) j → ⊥
