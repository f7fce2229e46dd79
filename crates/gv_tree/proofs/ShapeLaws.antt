-- The children of containers of each class.
use Rattle.std.proofs.Common.{◌≡◌, List, [], ◌∷◌, get_or}
use Rattle.gv_model.specs.Ty.{Ty, Basic}
use Rattle.gv_model.specs.Ty.Ty.{basic, variant, array, maybe, tuple, entry}
use Rattle.gv_model.specs.Tree.{Tree as Value, type_of}
use Rattle.gv_model.specs.Tree.Tree.{node}
use Rattle.gv_model.specs.Tree.Trees.{none, first}
use Rattle.gv_model.specs.Typed.{MayHold}
use Rattle.gv_types.specs.Classes.{class_of}
use Rattle.gv_types.specs.declared.class.Class.TheVariants as classes
use Rattle.gv_tree.specs.Nodes.{trees_of}

-- an entry is a key and a value
pub entry_children : (t : Ty) (vs : List Value) (a b : Value) → classes.Entry ≡ class_of t → MayHold t (trees_of vs) → a ≡ get_or vs 0 a → b ≡ get_or vs 1 b → (k : Basic) × (node t (trees_of vs) ≡ node (entry k (type_of b)) (first a (first b none)))
entry_children (basic k) vs a b c h e f = absurd cc
entry_children variant vs a b c h e f = absurd cc
entry_children (array t) vs a b c h e f = absurd cc
entry_children (maybe t) vs a b c h e f = absurd cc
entry_children (tuple t) vs a b c h e f = absurd cc
entry_children (entry k t) [] a b c h e f = absurd cc
entry_children (entry k t) (x ∷ []) a b c h e f = absurd cc
entry_children (entry k t) (x ∷ y ∷ []) a b c h e f = (k, cc)
entry_children (entry k t) (x ∷ y ∷ z ∷ vs) a b c h e f = absurd cc
