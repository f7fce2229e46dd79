use Rattle.std.proofs.Common.{ℕ, ◌<◌}
use Rattle.gvdb_check.specs.HashAbove.{GoesOn}
use Rattle.gvdb_format.specs.Tables.{region}
use Rattle.gvdb_check.proofs.hash_by_parent.hashes_go_on.Given as goal

-- the hash of each item before this one goes on from its parent's
abbrev pub invariant-loop-i : goal.invariant-loop-i
invariant-loop-i l = (j : ℕ) → j < l.i → GoesOn (region l.fn.table) j
