-- What a copy of a value is made from.
use Rattle.std.specs.Prelude.{◌≡◌, ◌≤◌, List}
use Rattle.gv_types.specs.declared.class.Class.{Class}
use Rattle.gv_types.specs.Classes.{class_of}
use Rattle.gv_model.specs.Tree.{Tree, children, depth}
use Rattle.gv_tree.specs.Nodes.{trees_of}
use Rattle.gv_view.specs.declared.view.View.{View}
use Rattle.gv_view.specs.Views.{view_ty, value}

-- the children of a value of this class and of no more than 128 levels
pub record AreChildTrees (v : View) (class : Class) (vs : List Tree) : Type 0 where
  pub kind : class_of (view_ty v) ≡ class
  pub levels : depth (value v) ≤ 128
  pub all : trees_of vs ≡ children (value v)
