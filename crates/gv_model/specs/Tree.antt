-- A value as a tree: a basic value, or a container with its children.
-- GVariant Specification, "The GVariant Type System"; the defaults are those of "Handling Non-Normal
-- Serialised Data".
use Rattle.std.specs.Prelude.{ℕ, zero, suc, ◌+◌, max, List, [], ◌∷◌, Option, Some, None}
use Rattle.gv_model.specs.Ty.{Ty, Basic, Types}
use Rattle.gv_model.specs.Ty.Ty.{basic, variant, array, maybe, tuple, entry}
use Rattle.gv_model.specs.Ty.Types.{end, member}
use Rattle.gv_model.specs.Ty.Basic.{byte, string, path, signature}

mutual
  pub data Tree : Type 0 where
    -- a basic value of fixed size, by its bits: false is 0 and true is 1, a signed number is its two's
    -- complement, a double is its eight bytes
    number : Basic → ℕ → Tree
    -- a string, an object path or a signature
    text : Basic → List ℕ → Tree
    -- a container of this type: a maybe has one child or none, a variant has one
    node : Ty → Trees → Tree

  pub data Trees : Type 0 where
    none : Trees
    first : Tree → Trees → Trees

abbrev pub type_of : Tree → Ty
type_of (number k n) = basic k
type_of (text k s) = basic k
type_of (node t vs) = t

abbrev pub children : Tree → Trees
children (number k n) = none
children (text k s) = none
children (node t vs) = vs

unfoldable pub tree_at : Trees → ℕ → Option Tree
tree_at none i = None
tree_at (first v vs) zero = Some v
tree_at (first v vs) (suc i) = tree_at vs i

unfoldable pub trees_len : Trees → ℕ
trees_len none = 0
trees_len (first v vs) = suc (trees_len vs)

-- the trees of these bytes, each at the type `y`
unfoldable pub byte_trees : List ℕ → Trees
byte_trees [] = none
byte_trees (b ∷ bs) = first (number byte b) (byte_trees bs)

-- 1 for a basic value and an empty container, else one more than the deepest child
unfoldable mutual
  pub depth : Tree → ℕ
  depth (number k n) = 1
  depth (text k s) = 1
  depth (node t vs) = suc (greatest_depth vs)

  pub greatest_depth : Trees → ℕ
  greatest_depth none = 0
  greatest_depth (first v vs) = max (depth v) (greatest_depth vs)

-- the value and every value in it
unfoldable mutual
  pub nodes : Tree → ℕ
  nodes (number k n) = 1
  nodes (text k s) = 1
  nodes (node t vs) = suc (nodes_of vs)

  pub nodes_of : Trees → ℕ
  nodes_of none = 0
  nodes_of (first v vs) = nodes v + nodes_of vs

abbrev pub basic_default : Basic → Tree
basic_default string = text string []
basic_default path = text path (47 ∷ [])
basic_default signature = text signature []
basic_default k = number k 0

-- 0, false, '', '/' for an object path, no element, Nothing, defaults in a tuple, `<()>`
unfoldable mutual
  pub default : Ty → Tree
  default (basic k) = basic_default k
  default variant = node variant (first (node (tuple end) none) none)
  default (array t) = node (array t) none
  default (maybe t) = node (maybe t) none
  default (tuple ts) = node (tuple ts) (defaults ts)
  default (entry k t) = node (entry k t) (first (basic_default k) (first (default t) none))

  pub defaults : Types → Trees
  defaults end = none
  defaults (member t ts) = first (default t) (defaults ts)
