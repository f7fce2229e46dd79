-- Looking up a key in a dictionary of strings, `a{sT}`.
-- GVariant Specification, "Dictionaries": an array of entries. Of equal keys the first one counts.
use Rattle.std.specs.Prelude.{◌≡◌, ◌⊎◌, ℕ, List, Option, Some, None}
use Rattle.gv_model.specs.Ty.Ty.{array, entry}
use Rattle.gv_model.specs.Ty.Basic.{string}
use Rattle.gv_model.specs.Tree.{Tree, Trees, children, tree_at}
use Rattle.gv_model.specs.Tree.Tree.{text, node}
use Rattle.gv_model.specs.Tree.Trees.{none, first}

-- an entry's key and its value are its two children
abbrev pub HasKey : Tree → List ℕ → Type 0
HasKey e key = tree_at (children e) 0 ≡ Some (text string key)

-- the value of the first of these entries with this key, if one has it
abbrev pub IsFirst : Trees → List ℕ → Option Tree → Type 0
IsFirst none key found = found ≡ None
IsFirst (first e es) key found =
    (HasKey e key × (found ≡ tree_at (children e) 1)) ⊎ ((¬ HasKey e key) × IsFirst es key found)

-- the same of a value; only dictionaries of strings have entries to look up
abbrev pub IsLookedUp : Tree → List ℕ → Option Tree → Type 0
IsLookedUp (node (array (entry string t)) vs) key found = IsFirst vs key found
IsLookedUp _ key found = found ≡ None
