use Rattle.std.proofs.Common.{ℕ, ◌<◌}
use Rattle.dconf_model.specs.Sound.{IsChild}
use Rattle.gvdb_check.specs.ListNumbers.{IsListed}
use Rattle.gvdb_format.specs.Tables.{region}
use Rattle.gvdb_check.proofs.lists.lists_each_child.Given as goal

-- each child before this item is in the list
abbrev pub invariant-loop-j : goal.invariant-loop-j
invariant-loop-j l = (m : ℕ) → m < l.j → IsChild (region l.fn.table) l.i m → IsListed (region l.fn.table) l.i m
