-- The type that a text spells, if it spells one within the limits.
-- GVariant Specification, "Type Strings"; the limits are this project's.
--
-- A text is read from its end: each byte turns the types and closing brackets that come after it into
-- those that come from it on.
use Rattle.std.specs.Prelude.{◌≡◌, ℕ, true, List, [], ◌∷◌, length, Option, Some, None, nat_le, ◌==◌, ◌&&◌, Bool, if◌then◌else◌, option_and_then, is_some, unwrap_or}
use Rattle.gv_model.specs.Ty.{Ty, Basic, nesting, spelling}
use Rattle.gv_model.specs.Ty.Ty.{basic, variant, array, maybe, tuple, entry}
use Rattle.gv_model.specs.Ty.Types.{end, member}
use Rattle.gv_model.specs.Ty.Basic.{boolean, byte, int16, uint16, int32, uint32, int64, uint64, handle, double, string, path, signature}

-- what a byte of a text stands for
pub data TypeMark : Type 0 where
  letter : Basic → TypeMark
  of_variant of_array of_maybe : TypeMark
  open_tuple close_tuple open_entry close_entry : TypeMark
  other : TypeMark

unfoldable pub mark : ℕ → TypeMark
mark c =
    if c == 98 then letter boolean else if c == 121 then letter byte
    else if c == 110 then letter int16 else if c == 113 then letter uint16
    else if c == 105 then letter int32 else if c == 117 then letter uint32
    else if c == 120 then letter int64 else if c == 116 then letter uint64
    else if c == 104 then letter handle else if c == 100 then letter double
    else if c == 115 then letter string else if c == 111 then letter path
    else if c == 103 then letter signature
    else if c == 118 then of_variant else if c == 97 then of_array else if c == 109 then of_maybe
    else if c == 40 then open_tuple else if c == 41 then close_tuple
    else if c == 123 then open_entry else if c == 125 then close_entry else other

-- the types that occur in a text, the leftmost first, and among them closing brackets that wait for
-- their opening ones
pub data Seen : Type 0 where
  nothing : Seen
  type : Ty → Seen → Seen
  tuple_end : Seen → Seen
  entry_end : Seen → Seen
  wrong : Seen

abbrev pub array_before : Seen → Seen
array_before (type t seen) = type (array t) seen
array_before _ = wrong

abbrev pub maybe_before : Seen → Seen
maybe_before (type t seen) = type (maybe t) seen
maybe_before _ = wrong

abbrev pub entry_before : Seen → Seen
entry_before (type (basic k) (type t (entry_end seen))) = type (entry k t) seen
entry_before _ = wrong

-- with t as its first member
abbrev pub member_before : Ty → Seen → Seen
member_before t (type (tuple ts) seen) = type (tuple (member t ts)) seen
member_before t _ = wrong

-- the types up to the closing bracket are a tuple's
unfoldable pub tuple_type_before : Seen → Seen
tuple_type_before (tuple_end seen) = type (tuple end) seen
tuple_type_before (type t seen) = member_before t (tuple_type_before seen)
tuple_type_before nothing = wrong
tuple_type_before (entry_end seen) = wrong
tuple_type_before wrong = wrong

abbrev pub mark_before : TypeMark → Seen → Seen
mark_before (letter k) seen = type (basic k) seen
mark_before of_variant seen = type variant seen
mark_before of_array seen = array_before seen
mark_before of_maybe seen = maybe_before seen
mark_before open_tuple seen = tuple_type_before seen
mark_before close_tuple seen = tuple_end seen
mark_before open_entry seen = entry_before seen
mark_before close_entry seen = entry_end seen
mark_before other seen = wrong

unfoldable pub seen : List ℕ → Seen
seen [] = nothing
seen (c ∷ cs) = mark_before (mark c) (seen cs)

abbrev pub one_type : Seen → Option Ty
one_type (type t nothing) = Some t
one_type _ = None

-- a type nests at most 128 deep, and its text has at most 67,108,864 bytes
abbrev pub is_within_limits : Ty → List ℕ → Bool
is_within_limits t text = nat_le (nesting t) 128 && nat_le (length text) 67108864

-- the text is the type's own
abbrev pub IsWithinLimits : Ty → Type 0
IsWithinLimits t = is_within_limits t (spelling t) ≡ true

-- the type that a text spells
unfoldable pub type_of_text : List ℕ → Option Ty
type_of_text text = option_and_then (λ t. if is_within_limits t text then Some t else None) (one_type (seen text))

-- whether a text spells a type, and which: the tuple of none where it spells none
abbrev pub is_type : List ℕ → Bool
is_type text = is_some (type_of_text text)

abbrev pub type_at : List ℕ → Ty
type_at text = unwrap_or (type_of_text text) (tuple end)
