use Rattle.gvdb_format.specs.Tables.{region}
use Rattle.gvdb_check.proofs.NameLengths.{IsLeft}
use Rattle.gvdb_check.proofs.length.short_len.Given as goal

-- what is left of 65,535 bytes after the keys that were passed
abbrev pub invariant-loop-len : goal.invariant-loop-len
invariant-loop-len l = IsLeft (region l.fn.table) l.i l.at l.left

abbrev pub decreases-loop-len : goal.decreases-loop-len
decreases-loop-len l = l.left
