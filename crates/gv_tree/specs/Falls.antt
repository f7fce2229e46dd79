-- A tree has more values in it than each of its children.
use Rattle.std.specs.Prelude.{◌+◌, ◌≤◌, max, List, [], ◌∷◌}
use Rattle.std.proofs.Common.{arith}
use denote.Param.Weighed.{most}
use Rattle.gv_model.specs.Tree.{Tree as Value, nodes, nodes_of}
use Rattle.gv_tree.specs.declared.tree.Node.{Node}
use Rattle.gv_tree.specs.declared.tree.Node.TheVariants.{Basic, Container}
use Rattle.gv_tree.specs.declared.tree.Tree.TheDeep.{deep-Node}
use Rattle.gv_tree.specs.Nodes.{trees_of, tree_of}

most_le-nodes_of : (vs : List Value) → most (λ v. nodes v + 1) vs ≤ nodes_of (trees_of vs) + 1
unfolding nodes
most_le-nodes_of [] = omega arith
most_le-nodes_of (v ∷ vs) = omega (arith, most_le-nodes_of vs)

pub deep-le_nodes : (n : Node) → max (deep-Node n) 0 ≤ nodes (tree_of n)
unfolding nodes
deep-le_nodes (Basic value) = omega arith
deep-le_nodes (Container text children) = omega (arith, most_le-nodes_of children.items)
