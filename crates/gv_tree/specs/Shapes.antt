-- What a tree is made of.
use Rattle.std.specs.Prelude.{◌≡◌, Some, None}
use Rattle.gv_model.specs.Ty.{Ty, Basic}
use Rattle.gv_model.specs.Ty.Ty.{array, maybe, tuple, entry, variant}
use Rattle.gv_model.specs.Tree.{Tree as Value, type_of}
use Rattle.gv_model.specs.Tree.Tree.{node}
use Rattle.gv_model.specs.Tree.Trees.{none, first}
use Rattle.gv_model.specs.Typed.{types_of}
use Rattle.gv_tree.specs.declared.shape.Shape.{Shape}
use Rattle.gv_tree.specs.declared.shape.Shape.TheVariants as shapes
use Rattle.gv_tree.specs.Basics.{basic_tree}
use Rattle.gv_tree.specs.Nodes.{trees_of}

abbrev pub ShapeIs : Shape → Value → Type 0
ShapeIs (shapes.Basic value) v = v ≡ basic_tree value.now
ShapeIs (shapes.Maybe None) v = (t : Ty) × (v ≡ node (maybe t) none)
ShapeIs (shapes.Maybe (Some child)) v = v ≡ node (maybe (type_of child.now)) (first child.now none)
ShapeIs (shapes.Array elements) v = (t : Ty) × (v ≡ node (array t) (trees_of elements.now))
ShapeIs (shapes.Tuple members) v = v ≡ node (tuple (types_of (trees_of members.now))) (trees_of members.now)
ShapeIs (shapes.Entry key value) v = (k : Basic) × (v ≡ node (entry k (type_of value.now)) (first key.now (first value.now none)))
ShapeIs (shapes.Variant child) v = v ≡ node variant (first child.now none)
