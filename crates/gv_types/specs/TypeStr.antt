-- What a type text shows: its text, its type, the types of its parts.
use Rattle.std.specs.Prelude.{ℕ, Bool, List, Option, Some, None}
use Rattle.gv_model.specs.Ty.{Ty}
use Rattle.gv_model.specs.Ty.Ty.{basic, array, maybe, entry}
use Rattle.gv_model.specs.TypeText.{type_at}
use Rattle.gv_types.specs.declared.type_str.TypeStr.{TypeStr}

abbrev pub text_of : TypeStr → List ℕ
text_of t = t.text.now

-- the type that the text spells
abbrev pub ty : TypeStr → Ty
ty t = type_at t.text.now

-- whether the type is known to have no fixed size
abbrev pub is_known_open : TypeStr → Bool
is_known_open t = t.known_open

-- the type that an array or a maybe holds
abbrev pub element_of : Ty → Option Ty
element_of (array t) = Some t
element_of (maybe t) = Some t
element_of _ = None

-- the type of an entry's key
abbrev pub key_of : Ty → Option Ty
key_of (entry k t) = Some (basic k)
key_of _ = None
