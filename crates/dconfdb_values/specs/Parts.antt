-- The children of a container, as C takes them.
use Rattle.std.specs.Prelude.{◌≡◌, ◌⊎◌, ℕ, List, None, Option, Some, slice_get}
use Rattle.gv_model.specs.Ty.{Ty, spelling}
use Rattle.gv_model.specs.Ty.Ty.{array, entry}
use Rattle.gv_model.specs.Ty.Basic.{path}
use Rattle.gv_model.specs.Tree.{Tree, Trees, children, tree_at}
use Rattle.gv_model.specs.Tree.Tree.{node, text}
use Rattle.gv_model.specs.Tree.Trees.{none, first}
use Rattle.gv_model.specs.Entries.{IsLookedUp}
use Rattle.gv_model.specs.TypeText.{type_at}
use Rattle.gv_model.specs.Parts.{Part}
use Rattle.gv_model.specs.Children.{Child, child_bytes}
use Rattle.gv_model.specs.Decode.{cut, decode}
use Rattle.gv_view.specs.declared.view.View.{View}
use Rattle.gv_view.specs.Views.{value}
use Rattle.dconfdb_values.specs.declared.parts.DconfdbPart.{DconfdbPart}

-- its type and its bytes
abbrev pub shown_part : DconfdbPart → Part
shown_part p = (type_at p.type_text.now, p.value.now)

abbrev pub part_value : DconfdbPart → Tree
part_value p = decode (type_at p.type_text.now) p.value.now

-- it has the child's own bytes, and the text that spells the child's type
abbrev pub IsLentChild : List ℕ → List ℕ → ℕ → DconfdbPart → Type 0
IsLentChild type_text bytes index p = (c : Child)
    × ((slice_get (cut (type_at type_text) bytes) index ≡ Some c)
    × ((p.value.now ≡ child_bytes bytes c) × (p.type_text.now ≡ spelling c.type)))

-- ---- a dictionary of object paths, looked up as one of strings is

-- the entry's key is this object path
abbrev pub HasPath : Tree → List ℕ → Type 0
HasPath e key = tree_at (children e) 0 ≡ Some (text path key)

-- the value of the first of these entries with this key, if one has it
abbrev pub IsFirstPath : Trees → List ℕ → Option Tree → Type 0
IsFirstPath none key found = found ≡ None
IsFirstPath (first e es) key found =
    (HasPath e key × (found ≡ tree_at (children e) 1)) ⊎ ((¬ HasPath e key) × IsFirstPath es key found)

-- the same of a value, whose keys are strings or object paths
abbrev pub IsFound : Tree → List ℕ → Option Tree → Type 0
IsFound (node (array (entry path t)) vs) key found = IsFirstPath vs key found
IsFound v key found = IsLookedUp v key found

-- ---- words of private parts

abbrev pub IsPathEntry : Ty → Type 0
IsPathEntry e = (t : Ty) × (e ≡ entry path t)

abbrev pub IsPathDictionary : Ty → Type 0
IsPathDictionary d = (t : Ty) × (d ≡ array (entry path t))

-- the entry has this key, and v is its value
abbrev pub IsUnderPath : View → List ℕ → View → Type 0
IsUnderPath e key v = HasPath (value e) key × (tree_at (children (value e)) 1 ≡ Some (value v))
