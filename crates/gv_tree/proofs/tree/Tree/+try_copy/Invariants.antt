use Rattle.std.proofs.Common.{◌≡◌, take}
use Rattle.gv_tree.proofs.tree.Tree.+try_copy.Given as goal

abbrev pub decreases-try_copy : goal.decreases-try_copy
decreases-try_copy l = goal.size-try_copy l

abbrev pub invariant-loop-child : goal.invariant-loop-child
invariant-loop-child l = l.copies.items ≡ take l.child-index l.child-items
