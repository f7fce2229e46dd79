use Rattle.std.proofs.Common.{◌≡◌, take}
use Rattle.gv_tree.proofs.tree.Tree.+equal.Given as goal

abbrev pub decreases-equal : goal.decreases-equal
decreases-equal l = goal.size-equal l

abbrev pub invariant-loop-i : goal.invariant-loop-i
invariant-loop-i l = take l.i l.children.items ≡ take l.i l.others.items
