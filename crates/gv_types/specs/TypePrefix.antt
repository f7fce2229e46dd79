-- Reading a type at the start of a text: the type, or where and why reading stops.
use Rattle.std.specs.Prelude.{◌≡◌, ◌≢◌, ◌≤◌, ℕ, List, [], ◌∷◌, ◌++◌, if◌then◌else◌}
use Rattle.gv_model.specs.Ty.{Ty, spelling, nesting}
use Rattle.gv_model.specs.TypeFault.{Prefix, prefix_text, prefix_nesting, open_types, next, BeginsType, IsKey, IsBadChar, IsKeyNotBasic}
use Rattle.gv_model.specs.TypeFault.Expected.{key}
use Rattle.gv_model.specs.TypeText.{mark}
use Rattle.gv_types.specs.Classes.{is_single_mark}
use Rattle.gv_types.specs.SingleTuples.{single_tuples}
use Rattle.gv_types.specs.declared.grammar.Halt.{Halt}
use Rattle.gv_types.specs.declared.grammar.Halt.TheVariants.{Unclosed, BadChar, KeyNotBasic, TooDeep}

-- at the start of the text is a type of at most this many levels, and then the rest
pub record BeginsWithType (room : ℕ) (text rest : List ℕ) : Type 0 where
  pub type : Ty
  pub whole : text ≡ spelling type ++ rest
  pub within : nesting type ≤ room

-- the same, of a type that is so many tuples of one member, one in another
pub record ReadsType (room : ℕ) (text rest : List ℕ) (singles : ℕ) : Type 0 where
  pub begins : BeginsWithType room text rest
  pub counted : singles ≡ single_tuples begins.type

-- what follows the types of one letter that a text begins with
unfoldable pub after_letters : List ℕ → List ℕ
after_letters [] = []
after_letters (b ∷ rest) = if is_single_mark (mark b) then after_letters rest else b ∷ rest

-- why a type of at most this many levels doesn't go on so after a prefix
abbrev pub HaltsAfter : ℕ → Prefix → List ℕ → Halt → Type 0
HaltsAfter room f [] Unclosed = Unit {0}
HaltsAfter room f (b ∷ rest) BadChar = IsBadChar f b
HaltsAfter room f (b ∷ rest) KeyNotBasic = IsKeyNotBasic f b
HaltsAfter room f (b ∷ rest) TooDeep = (open_types f ≡ room) × BeginsType b × (next f ≡ key → IsKey b)
HaltsAfter room f _ _ = ⊥

-- the text begins with a prefix of a type, after which reading stops before the rest
pub record HaltsAt (room : ℕ) (text rest : List ℕ) (halt : Halt) : Type 0 where
  pub prefix : Prefix
  pub whole : text ≡ prefix_text prefix ++ rest
  pub within : prefix_nesting prefix ≤ room
  pub stops : HaltsAfter room prefix rest halt

-- why the bracket that closes an entry isn't at the start of a text
abbrev pub IsNotClosed : List ℕ → Halt → Type 0
IsNotClosed [] Unclosed = Unit {0}
IsNotClosed (b ∷ rest) BadChar = b ≢ 125
IsNotClosed _ _ = ⊥
