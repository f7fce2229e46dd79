-- What a view shows: a type, bytes, and the value that they are at that type.
use Rattle.std.specs.Prelude.{◌≡◌, ◌⊎◌, ℕ, List, Option, Some, None}
use Rattle.gv_model.specs.Ty.{Ty}
use Rattle.gv_model.specs.Ty.Ty.{basic}
use Rattle.gv_model.specs.Ty.Basic.{string, path, signature}
use Rattle.gv_model.specs.Tree.{Tree}
use Rattle.gv_model.specs.Children.{Child, child_bytes}
use Rattle.gv_model.specs.Decode.{decode}
use Rattle.gv_model.specs.Parts.{Part}
use Rattle.gv_types.specs.declared.type_str.TypeStr.{TypeStr}
use Rattle.gv_types.specs.TypeStr.{ty}
use Rattle.gv_view.specs.declared.view.View.{View}
pub use Rattle.gv_model.specs.BasicValue.{truth_bits}

-- its type's text, and that type
abbrev pub type_str_of : View → TypeStr
type_str_of v = v.type_str

abbrev pub view_ty : View → Ty
view_ty v = ty v.type_str

-- the bytes that it reads
abbrev pub view_bytes : View → List ℕ
view_bytes v = v.bytes.now

-- the value that the bytes are at the type
abbrev pub value : View → Tree
value v = decode (ty v.type_str) v.bytes.now

-- the view of a child has the child's type and exactly the child's bytes
pub record ShowsChild (b : List ℕ) (child : Child) (v : View) : Type 0 where
  pub type : ty v.type_str ≡ child.type
  pub bytes : v.bytes.now ≡ child_bytes b child

-- the view of this child of b, where there is one
abbrev pub Lends : List ℕ → Option Child → Option View → Type 0
Lends b None None = Unit {0}
Lends b (Some child) (Some v) = ShowsChild b child v
Lends b None (Some v) = ⊥
Lends b (Some child) None = ⊥

-- a type of texts
abbrev pub IsTextType : Ty → Type 0
IsTextType t = (t ≡ basic string) ⊎ ((t ≡ basic path) ⊎ (t ≡ basic signature))

-- what it shows, as a type and the bytes that are read at it
abbrev pub shown : View → Part
shown v = (ty v.type_str, v.bytes.now)
