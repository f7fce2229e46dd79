use Rattle.std.proofs.Common.{ℕ, ◌<◌}
use Rattle.gvdb_check.specs.OnePass.{ItemKeeps}
use Rattle.gvdb_format.specs.Tables.{region}
use Rattle.gvdb_check.proofs.CountedLists.{AreCounted}
use Rattle.gvdb_check.proofs.one_pass.items_keep.Given as goal

-- the items before this one keep the rules
abbrev pub invariant-loop-i : goal.invariant-loop-i
invariant-loop-i l = record {
  kept : (j : ℕ) → j < l.i → ItemKeeps (region l.fn.table) j;
  counted : AreCounted (region l.fn.table) l.i l.left;
}
