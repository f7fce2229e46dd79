use Rattle.std.proofs.Common.{◌+◌, ◌*◌, drop, max}
use Rattle.gv_model.specs.Ty.{members, types_from}
use Rattle.gv_model.specs.Syntax.{levels, greatest_levels, pairs_levels}
use Rattle.gv_model.specs.Admits.{AllAdmit, Admit, KeysAdmit, ValuesAdmit, IsEntryOf}
use Rattle.gv_model.specs.LeastTypes.{choice}
use Rattle.gv_model.specs.TextValues.{elements, members_of, entries}
use Rattle.gv_types.specs.TypeStr.{ty}
use Rattle.gv_types.specs.Members.{members_left}
use Rattle.gv_syntax.specs.SyntaxNodes.{nodes_of, pairs_of}
use Rattle.gv_infer.specs.Children.{IsBuiltSoFar}
use Rattle.gv_infer.specs.Within.{AreWithin, PairsWithin}
use Rattle.gv_infer.proofs.build.+build.Given as goal

abbrev pub decreases-build : goal.decreases-build
decreases-build l = 4 * levels l.node.now

abbrev pub decreases-build_just : goal.decreases-build_just
decreases-build_just l = 4 * levels l.node.now + 1

abbrev pub decreases-build_variant : goal.decreases-build_variant
decreases-build_variant l = 4 * levels l.node.now + 1

abbrev pub decreases-build_array : goal.decreases-build_array
decreases-build_array l = 4 * greatest_levels (nodes_of l.nodes.now) + 2

abbrev pub decreases-build_elements : goal.decreases-build_elements
decreases-build_elements l = 4 * greatest_levels (nodes_of l.nodes.now) + 1

abbrev pub decreases-build_tuple : goal.decreases-build_tuple
decreases-build_tuple l = 4 * greatest_levels (nodes_of l.nodes.now) + 2

abbrev pub decreases-build_members : goal.decreases-build_members
decreases-build_members l = 4 * greatest_levels (nodes_of l.nodes.now) + 1

abbrev pub decreases-build_dictionary : goal.decreases-build_dictionary
decreases-build_dictionary l = 4 * pairs_levels (pairs_of l.pairs.now) + 3

abbrev pub decreases-build_entries : goal.decreases-build_entries
decreases-build_entries l = 4 * pairs_levels (pairs_of l.pairs.now) + 2

abbrev pub decreases-build_entry : goal.decreases-build_entry
decreases-build_entry l = 4 * max (levels l.key.now) (levels l.value.now) + 1

abbrev pub invariant-build_elements-loop-node : goal.invariant-build_elements-loop-node
invariant-build_elements-loop-node l = record {
  held : IsBuiltSoFar (elements choice (nodes_of l.nodes) (ty l.of)) (elements choice (nodes_of (drop l.node-index l.nodes)) (ty l.of)) l.children;
  fits : AllAdmit (nodes_of (drop l.node-index l.nodes)) (ty l.of);
  within : AreWithin (nodes_of (drop l.node-index l.nodes));
}

abbrev pub invariant-build_members-loop-node : goal.invariant-build_members-loop-node
invariant-build_members-loop-node l = record {
  held : IsBuiltSoFar (members_of choice (nodes_of l.nodes) (members (ty l.fn.of))) (members_of choice (nodes_of (drop l.node-index l.nodes)) (types_from (members_left l.types))) l.children;
  fits : Admit (nodes_of (drop l.node-index l.nodes)) (types_from (members_left l.types));
  within : AreWithin (nodes_of (drop l.node-index l.nodes));
}

abbrev pub invariant-build_entries-loop-key : goal.invariant-build_entries-loop-key
invariant-build_entries-loop-key l = record {
  held : IsBuiltSoFar (entries choice (pairs_of l.pairs) (ty l.of)) (entries choice (pairs_of (drop l.key-index l.pairs)) (ty l.of)) l.children;
  fits : IsEntryOf (KeysAdmit (pairs_of (drop l.key-index l.pairs))) (ValuesAdmit (pairs_of (drop l.key-index l.pairs))) (ty l.of);
  within : PairsWithin (pairs_of (drop l.key-index l.pairs));
}
