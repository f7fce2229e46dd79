-- The types of GVariant and the texts that spell them.
-- GVariant Specification, "The GVariant Type System" and "Type Strings".
use Rattle.std.specs.Prelude.{ℕ, max, suc, List, [], ◌∷◌, ◌++◌}

-- the types that hold no other; a handle is an index as D-Bus passes file descriptors
pub data Basic : Type 0 where
  boolean byte int16 uint16 int32 uint32 int64 uint64 handle double string path signature : Basic

mutual
  pub data Ty : Type 0 where
    basic : Basic → Ty
    variant : Ty
    array : Ty → Ty
    maybe : Ty → Ty
    tuple : Types → Ty
    -- a dictionary's entry: its key is basic
    entry : Basic → Ty → Ty

  -- the members of a tuple
  pub data Types : Type 0 where
    end : Types
    member : Ty → Types → Types

-- the letter of a basic type
abbrev pub letter : Basic → ℕ
letter boolean = 98
letter byte = 121
letter int16 = 110
letter uint16 = 113
letter int32 = 105
letter uint32 = 117
letter int64 = 120
letter uint64 = 116
letter handle = 104
letter double = 100
letter string = 115
letter path = 111
letter signature = 103

-- the text of a type: its letter, `v`, `aT`, `mT`, `(T..)` or `{KT}`
unfoldable mutual
  pub spelling : Ty → List ℕ
  spelling (basic k) = letter k ∷ []
  spelling variant = 118 ∷ []
  spelling (array t) = 97 ∷ spelling t
  spelling (maybe t) = 109 ∷ spelling t
  spelling (tuple ts) = 40 ∷ (spellings ts ++ 41 ∷ [])
  spelling (entry k t) = 123 ∷ letter k ∷ (spelling t ++ 125 ∷ [])

  pub spellings : Types → List ℕ
  spellings end = []
  spellings (member t ts) = spelling t ++ spellings ts

-- how deep a type nests: 1 for a basic type, `v` and `()`, else one more than its deepest part
unfoldable mutual
  pub nesting : Ty → ℕ
  nesting (basic k) = 1
  nesting variant = 1
  nesting (array t) = suc (nesting t)
  nesting (maybe t) = suc (nesting t)
  nesting (tuple ts) = suc (greatest_nesting ts)
  nesting (entry k t) = suc (nesting t)

  pub greatest_nesting : Types → ℕ
  greatest_nesting end = 0
  greatest_nesting (member t ts) = max (nesting t) (greatest_nesting ts)

-- the members of a tuple or an entry
abbrev pub members : Ty → Types
members (tuple ts) = ts
members (entry k t) = member (basic k) (member t end)
members _ = end

-- the types in a list
unfoldable pub type_list : Types → List Ty
type_list end = []
type_list (member t ts) = t ∷ type_list ts

-- types in a list, as members
abbrev pub types_from : List Ty → Types
types_from [] = end
types_from (t ∷ ts) = member t (types_from ts)
