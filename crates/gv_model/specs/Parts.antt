-- The parts of a value, found by following children.
use Rattle.std.specs.Prelude.{ℕ, List, [], ◌∷◌, map, Option, Some, option_and_then, slice_get}
use Rattle.gv_model.specs.Ty.{Ty}
use Rattle.gv_model.specs.Tree.{Tree, Trees, children, tree_at}
use Rattle.gv_model.specs.Tree.Trees.{none, first}
use Rattle.gv_model.specs.Children.{Child, child_bytes}
use Rattle.gv_model.specs.Decode.{cut, decode}

-- a type and the bytes that are read at it
abbrev pub Part : Type 0
Part = Ty × List ℕ

-- a child of these bytes, as a type and its own bytes
abbrev pub part_of : List ℕ → Child → Part
part_of b c = (c.type, child_bytes b c)

-- the children of a value, in order, each as its type and its bytes
unfoldable pub parts : Ty → List ℕ → List Part
parts t b = map (part_of b) (cut t b)

-- where the first index leads to a child, the second to a child of that, and so on
unfoldable pub part_at : Part → List ℕ → Option Part
part_at p [] = Some p
part_at p (i ∷ is) = option_and_then (λ c. part_at c is) (slice_get (parts p.0 p.1) i)

-- the same in a tree
unfoldable pub subtree_at : Tree → List ℕ → Option Tree
subtree_at v [] = Some v
subtree_at v (i ∷ is) = option_and_then (λ u. subtree_at u is) (tree_at (children v) i)

-- the values of parts
abbrev pub part_trees : List Part → Trees
part_trees [] = none
part_trees (p ∷ ps) = first (decode p.0 p.1) (part_trees ps)
