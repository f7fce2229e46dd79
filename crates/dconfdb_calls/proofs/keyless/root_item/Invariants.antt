use Rattle.std.proofs.Common.{ℕ, ◌<◌}
use Rattle.gvdb_read.specs.Tables.{region}
use Rattle.dconfdb_calls.specs.Keyless.{IsRootItem}
use Rattle.dconfdb_calls.proofs.keyless.root_item.Given as goal

-- none before is `/`
abbrev pub invariant-loop-at : goal.invariant-loop-at
invariant-loop-at l = (j : ℕ) → j < l.at → ¬ IsRootItem (region l.table) j
