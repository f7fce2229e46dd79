-- What a tree keeps beside its parts.
use Rattle.std.specs.Prelude.{◌≡◌, ◌-◌, ◌^◌, min, true, string_bytes}
use Rattle.gv_model.specs.Ty.{nesting}
use Rattle.gv_model.specs.TypeText.{is_type}
use Rattle.gv_model.specs.Tree.{type_of, depth, nodes}
use Rattle.gv_tree.specs.declared.tree.Tree.TheInside.{Inside}
use Rattle.gv_tree.specs.declared.tree.Node.{Node}
use Rattle.gv_tree.specs.declared.tree.Node.TheVariants.{Basic, Container}
use Rattle.gv_tree.specs.Nodes.{tree_of}
use Rattle.gv_tree.specs.Wholes.{IsWhole}

-- a container keeps the text of a type
abbrev pub KeepsType : Node → Type 0
KeepsType (Basic value) = Unit {0}
KeepsType (Container text children) = is_type (string_bytes text) ≡ true

pub record IsKept (a : Inside) : Type 0 where
  pub whole : IsWhole (tree_of a.node)
  pub text : KeepsType a.node
  pub levels : a.levels ≡ depth (tree_of a.node)
  pub type_levels : a.type_levels ≡ nesting (type_of (tree_of a.node))
  pub values : a.values ≡ min (nodes (tree_of a.node)) (2 ^ 64 - 1)
