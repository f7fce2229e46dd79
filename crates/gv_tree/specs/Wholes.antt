-- What holds of each tree.
use Rattle.std.specs.Prelude.{◌≤◌, Option, Some, None}
use Rattle.gv_model.specs.Ty.{Ty}
use Rattle.gv_model.specs.Ty.Ty.{basic, entry}
use Rattle.gv_model.specs.TypeText.{IsWithinLimits}
use Rattle.gv_model.specs.Tree.{Tree, type_of, depth}
use Rattle.gv_model.specs.Tree.Tree.{node}
use Rattle.gv_model.specs.Tree.Trees.{none, first}
use Rattle.gv_model.specs.Typed.{IsValue}

-- a value of its type, of at most 128 levels, whose type lies within the limits of type texts
pub record IsWhole (v : Tree) : Type 0 where
  pub value : IsValue v
  pub levels : depth v ≤ 128
  pub limits : IsWithinLimits (type_of v)

-- the entry of a key of this type, which may be basic
abbrev pub entry_at_key : Ty → Tree → Tree → Option Tree
entry_at_key (basic k) key value = Some (node (entry k (type_of value)) (first key (first value none)))
entry_at_key _ key value = None

abbrev pub entry_tree : Tree → Tree → Option Tree
entry_tree key value = entry_at_key (type_of key) key value
