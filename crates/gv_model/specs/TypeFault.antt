-- Why a text is no type: the first fault from left to right, and its place.
-- The faults, their order and their limits are this project's; the grammar is that of the GVariant
-- Specification, "Type Strings".
use Rattle.std.specs.Prelude.{◌≡◌, ◌≢◌, ◌≤◌, ◌<◌, ◌⊎◌, ℕ, suc, max, List, [], ◌∷◌, ◌++◌, length}
use Rattle.gv_model.specs.Ty.{Ty, Types, Basic, letter, spelling, spellings, nesting, greatest_nesting}

-- A prefix is what has been read of a type that goes on.
pub data Prefix : Type 0 where
  nothing : Prefix
  array_of : Prefix → Prefix
  maybe_of : Prefix → Prefix
  -- whole members, and a prefix of the next
  tuple_with : Types → Prefix → Prefix
  entry_start : Prefix
  entry_with : Basic → Prefix → Prefix
  -- all but the closing bracket
  entry_end : Basic → Ty → Prefix

unfoldable pub prefix_text : Prefix → List ℕ
prefix_text nothing = []
prefix_text (array_of f) = 97 ∷ prefix_text f
prefix_text (maybe_of f) = 109 ∷ prefix_text f
prefix_text (tuple_with ts f) = 40 ∷ (spellings ts ++ prefix_text f)
prefix_text entry_start = 123 ∷ []
prefix_text (entry_with k f) = 123 ∷ letter k ∷ prefix_text f
prefix_text (entry_end k t) = 123 ∷ letter k ∷ spelling t

-- how deep the types nest that have begun
unfoldable pub prefix_nesting : Prefix → ℕ
prefix_nesting nothing = 0
prefix_nesting (array_of f) = suc (prefix_nesting f)
prefix_nesting (maybe_of f) = suc (prefix_nesting f)
prefix_nesting (tuple_with ts f) = suc (max (greatest_nesting ts) (prefix_nesting f))
prefix_nesting entry_start = 1
prefix_nesting (entry_with k f) = suc (max 1 (prefix_nesting f))
prefix_nesting (entry_end k t) = suc (nesting t)

-- how many types are open where a prefix ends
unfoldable pub open_types : Prefix → ℕ
open_types nothing = 0
open_types (array_of f) = suc (open_types f)
open_types (maybe_of f) = suc (open_types f)
open_types (tuple_with ts f) = suc (open_types f)
open_types entry_start = 1
open_types (entry_with k f) = suc (open_types f)
open_types (entry_end k t) = 1

-- what comes next where a prefix ends
pub data Expected : Type 0 where
  a_type : Expected
  -- a member, or the bracket that closes the tuple
  member_or_close : Expected
  key : Expected
  -- the bracket that closes an entry
  entry_close : Expected

abbrev pub in_tuple : Prefix → Expected → Expected
in_tuple nothing w = member_or_close
in_tuple _ w = w

unfoldable pub next : Prefix → Expected
next nothing = a_type
next (array_of f) = next f
next (maybe_of f) = next f
next (tuple_with ts f) = in_tuple f (next f)
next entry_start = key
next (entry_with k f) = next f
next (entry_end k t) = entry_close

-- the byte is the first of some type's text
abbrev pub BeginsType : ℕ → Type 0
BeginsType b = (t : Ty) × ((more : List ℕ) × (spelling t ≡ b ∷ more))

abbrev pub IsKey : ℕ → Type 0
IsKey b = (k : Basic) × (b ≡ letter k)

-- the byte can occur there, the kind of a key and the nesting left aside
abbrev pub IsAllowed : Expected → ℕ → Type 0
IsAllowed a_type b = BeginsType b
IsAllowed member_or_close b = BeginsType b ⊎ (b ≡ 41)
IsAllowed key b = BeginsType b
IsAllowed entry_close b = b ≡ 125

-- ---- a byte at fault after a prefix

abbrev pub IsBadChar : Prefix → ℕ → Type 0
IsBadChar f b = ¬ IsAllowed (next f) b

abbrev pub IsKeyNotBasic : Prefix → ℕ → Type 0
IsKeyNotBasic f b = (next f ≡ key) × BeginsType b × (¬ IsKey b)

-- a type begins at nesting 129
abbrev pub IsTooDeep : Prefix → ℕ → Type 0
IsTooDeep f b = (open_types f ≡ 128) × BeginsType b × (next f ≡ key → IsKey b)

-- at place i, after a prefix, is a byte of which P says that it is at fault
pub record FaultAt (P : Prefix → ℕ → Type 0) (text : List ℕ) (i : ℕ) : Type 0 where
  pub prefix : Prefix
  pub byte : ℕ
  pub rest : List ℕ
  pub whole : text ≡ prefix_text prefix ++ byte ∷ rest
  pub place : i ≡ length (prefix_text prefix)
  pub within : prefix_nesting prefix ≤ 128
  pub fault : P prefix byte

-- the text ends inside a type
pub record EndsInside (text : List ℕ) (i : ℕ) : Type 0 where
  pub prefix : Prefix
  pub whole : text ≡ prefix_text prefix
  pub begun : text ≢ []
  pub place : i ≡ length text
  pub within : prefix_nesting prefix ≤ 128

-- a whole type is followed by a byte
pub record GoesOn (text : List ℕ) (i : ℕ) : Type 0 where
  pub type : Ty
  pub byte : ℕ
  pub rest : List ℕ
  pub whole : text ≡ spelling type ++ byte ∷ rest
  pub place : i ≡ length (spelling type)
  pub within : nesting type ≤ 128

pub data Fault : Type 0 where
  too_long : Fault
  empty : Fault
  bad_char : ℕ → Fault
  key_not_basic : ℕ → Fault
  too_deep : ℕ → Fault
  unclosed : ℕ → Fault
  trailing : ℕ → Fault

abbrev pub IsFaultWithinLength : List ℕ → Fault → Type 0
IsFaultWithinLength text too_long = ⊥
IsFaultWithinLength text empty = text ≡ []
IsFaultWithinLength text (bad_char i) = FaultAt IsBadChar text i
IsFaultWithinLength text (key_not_basic i) = FaultAt IsKeyNotBasic text i
IsFaultWithinLength text (too_deep i) = FaultAt IsTooDeep text i
IsFaultWithinLength text (unclosed i) = EndsInside text i
IsFaultWithinLength text (trailing i) = GoesOn text i

-- the length is looked at first
abbrev pub IsFault : List ℕ → Fault → Type 0
IsFault text too_long = 67108864 < length text
IsFault text f = (length text ≤ 67108864) × IsFaultWithinLength text f
