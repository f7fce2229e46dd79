-- Dictionaries of strings, `a{sT}`, and the entries in them.
use Rattle.std.specs.Prelude.{◌≡◌, ◌⊎◌, ℕ, List, [], ◌∷◌, Option, Some, None, slice_get}
use Rattle.gv_model.specs.Ty.{Ty}
use Rattle.gv_model.specs.Ty.Ty.{array, entry}
use Rattle.gv_model.specs.Ty.Basic.{string}
use Rattle.gv_model.specs.Tree.{children, tree_at}
use Rattle.gv_model.specs.Decode.{decode}
use Rattle.gv_model.specs.Entries.{HasKey}
use Rattle.gv_model.specs.Parts.{Part, parts}
use Rattle.gv_view.specs.declared.view.View.{View}
use Rattle.gv_view.specs.Views.{value, view_ty, view_bytes, shown}

-- the type of an entry whose key is a string
abbrev pub IsTextEntry : Ty → Type 0
IsTextEntry e = (t : Ty) × (e ≡ entry string t)

abbrev pub IsDictionary : Ty → Type 0
IsDictionary d = (t : Ty) × (d ≡ array (entry string t))

-- the entry has this key, and v is its value
pub record IsValueUnder (e : View) (key : List ℕ) (v : View) : Type 0 where
  pub has_key : HasKey (value e) key
  pub value : tree_at (children (value e)) 1 ≡ Some (value v)
  pub type : view_ty e ≡ entry string (view_ty v)
  pub lent : slice_get (parts (view_ty e) (view_bytes e)) 1 ≡ Some (shown v)

-- the value of the first of these entries with this key, if one has it, as its type and its bytes
abbrev pub IsFirstPart : List Part → List ℕ → Option Part → Type 0
IsFirstPart [] key found = found ≡ None
IsFirstPart (e ∷ es) key found =
    (HasKey (decode e.0 e.1) key × (found ≡ slice_get (parts e.0 e.1) 1)) ⊎ ((¬ HasKey (decode e.0 e.1) key) × IsFirstPart es key found)
