use Rattle.std.proofs.Common.{◌<◌, ℕ}
use Rattle.gvdb_read.specs.Lookups.{IsDirectoryValue}
use Rattle.gvdb_read.specs.Tables.{region}
use Rattle.gvdb_read.proofs.table.Table.has_directory_value.Given as goal

-- no item before this one is
abbrev pub invariant-loop-i : goal.invariant-loop-i
invariant-loop-i l = (k : ℕ) → k < l.i → ¬ IsDirectoryValue (region l.fn.self) k
