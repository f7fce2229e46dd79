-- The tree that a node stands for, over its children's trees.
use Rattle.std.specs.Prelude.{List, [], ◌∷◌, Option, Some, None, string_bytes}
use Rattle.gv_model.specs.TypeText.{type_at}
use Rattle.gv_model.specs.Tree.{Tree as Value, Trees}
use Rattle.gv_model.specs.Tree.Tree.{node}
use Rattle.gv_model.specs.Tree.Trees.{none, first}
use Rattle.gv_tree.specs.declared.tree.Node.{Node}
use Rattle.gv_tree.specs.declared.tree.Node.TheVariants.{Basic, Container}
use Rattle.gv_tree.specs.Basics.{basic_tree}

abbrev pub trees_of : List Value → Trees
trees_of [] = none
trees_of (v ∷ vs) = first v (trees_of vs)

abbrev pub trees_of_option : Option Value → Trees
trees_of_option None = none
trees_of_option (Some v) = first v none

abbrev pub tree_of : Node → Value
tree_of (Basic value) = basic_tree value
tree_of (Container text children) = node (type_at (string_bytes text)) (trees_of children.items)
