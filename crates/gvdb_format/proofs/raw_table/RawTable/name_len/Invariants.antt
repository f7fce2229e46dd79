use Rattle.std.proofs.Common.{◌≡◌, ◌+◌, ℕ, List, length}
use Rattle.gvdb_format.specs.Tables.{region}
use Rattle.gvdb_format.proofs.NameWalks.{LeadsTo}
use Rattle.gvdb_format.proofs.raw_table.RawTable.name_len.Given as goal

-- the bytes of the keys that were passed are taken off the longest length
abbrev pub invariant-loop-link : goal.invariant-loop-link
invariant-loop-link l = (back : List ℕ) × LeadsTo (region l.fn.self) l.i l.at back × (length back + l.left ≡ l.longest)

abbrev pub decreases-loop-link : goal.decreases-loop-link
decreases-loop-link l = l.left
