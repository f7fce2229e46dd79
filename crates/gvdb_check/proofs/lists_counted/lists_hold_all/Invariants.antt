use Rattle.gvdb_format.specs.Tables.{region}
use Rattle.gvdb_check.proofs.CountedLists.{AreCounted}
use Rattle.gvdb_check.proofs.lists_counted.lists_hold_all.Given as goal

abbrev pub invariant-loop-i : goal.invariant-loop-i
invariant-loop-i l = AreCounted (region l.fn.table) l.i l.left
