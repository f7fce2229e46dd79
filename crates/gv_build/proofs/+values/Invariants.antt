use Rattle.std.proofs.Common.{◌+◌, ◌*◌, ◌++◌, [], ◌∷◌, drop}
use Rattle.gv_model.specs.Tree.{nodes, nodes_of}
use Rattle.gv_tree.specs.Nodes.{trees_of}
use Rattle.gv_build.specs.Writing.{parts_of}
use Rattle.gv_build.proofs.Steps.{JoinedSoFar, FramedSoFar, MembersSoFar}
use Rattle.gv_build.proofs.+values.Given as goal

abbrev pub decreases-tree::write_tree : goal.decreases-tree::write_tree
decreases-tree::write_tree l = 5 * nodes l.tree.now

abbrev pub decreases-place::place : goal.decreases-place::place
decreases-place::place l = 5 * nodes l.child.now + 1

abbrev pub decreases-array::write_joined : goal.decreases-array::write_joined
decreases-array::write_joined l = 5 * nodes_of (trees_of l.elements.now) + 2

abbrev pub decreases-array::write_framed : goal.decreases-array::write_framed
decreases-array::write_framed l = 5 * nodes_of (trees_of l.elements.now) + 2

abbrev pub decreases-array::write_array : goal.decreases-array::write_array
decreases-array::write_array l = 5 * nodes_of (trees_of l.elements.now) + 3

abbrev pub decreases-tuple::write_members : goal.decreases-tuple::write_members
decreases-tuple::write_members l = 5 * nodes_of (trees_of (l.before.now ++ l.last.now ∷ [])) + 2

abbrev pub decreases-tuple::write_tuple : goal.decreases-tuple::write_tuple
decreases-tuple::write_tuple l = 5 * nodes_of (trees_of l.members.now) + 3

abbrev pub invariant-array::write_joined-loop-element : goal.invariant-array::write_joined-loop-element
invariant-array::write_joined-loop-element l = JoinedSoFar l.initial.out.items l.out.items (parts_of l.elements) (parts_of (drop l.element-index l.elements))

abbrev pub invariant-array::write_framed-loop-element : goal.invariant-array::write_framed-loop-element
invariant-array::write_framed-loop-element l = FramedSoFar l.start l.initial.out.items l.out.items l.ends.items (parts_of l.elements) (parts_of (drop l.element-index l.elements))

abbrev pub invariant-tuple::write_members-loop-member : goal.invariant-tuple::write_members-loop-member
invariant-tuple::write_members-loop-member l =
    MembersSoFar l.start l.initial.out.items l.out.items l.ends.items (parts_of (l.before ++ l.last ∷ [])) (parts_of (drop l.member-index l.before ++ l.last ∷ []))
