-- The text of a value.
-- GLib, "GVariant Text Format" and the annotations of g_variant_print(): the word of a number's type is
-- written once for an array, at its first element, and never inside a maybe, which has its own `@` type.
use Rattle.std.specs.Prelude.{ℕ, ◌/◌, ◌%◌, Bool, true, false, List, [], ◌∷◌, ◌++◌, Option, Some, None, ◌==◌, ◌&&◌, ◌||◌, nat_lt, if◌then◌else◌, codes, decimal}
use Rattle.std.specs.Int.{cast_signed, w16, w32, w64}
use Rattle.std.specs.Fmt.{signed_decimal}
use Rattle.gv_model.specs.Ty.{Ty, Basic, spelling}
use Rattle.gv_model.specs.Ty.Ty.{basic, variant, array, maybe, tuple, entry}
use Rattle.gv_model.specs.Ty.Basic.{boolean, byte, int16, int32, int64, handle, double, string}
use Rattle.gv_model.specs.Tree.{Tree, Trees, depth}
use Rattle.gv_model.specs.Tree.Tree.{number, text, node}
use Rattle.gv_model.specs.Tree.Trees.{none, first}
use Rattle.gv_model.specs.BasicValue.{text_in}
use Rattle.gv_model.specs.Words.{keyword}
use Rattle.gv_model.specs.Quoted.{digit, between, quoted, byte_string}

abbrev pub Text : Type 0
Text = List ℕ

-- the word before a basic value that is annotated; int32, strings and booleans have none
abbrev pub word : Basic → Text
word boolean = []
word int32 = []
word double = []
word string = []
word k = keyword k ++ codes " "

abbrev pub when : Bool → Text → Text
when true s = s
when false s = []

abbrev pub hex_byte : ℕ → Text
hex_byte n = codes "0x" ++ (digit (n / 16) ∷ digit (n % 16) ∷ [])

-- a double has no text: printing refuses it
abbrev pub figures : Basic → ℕ → Text
figures boolean n = if n == 0 then codes "false" else codes "true"
figures byte n = hex_byte n
figures int16 n = signed_decimal (cast_signed w16 n)
figures int32 n = signed_decimal (cast_signed w32 n)
figures handle n = signed_decimal (cast_signed w32 n)
figures int64 n = signed_decimal (cast_signed w64 n)
figures double n = []
figures k n = decimal n

abbrev pub joined_by : Text → List Text → Text
joined_by mark [] = []
joined_by mark (s ∷ []) = s
joined_by mark (s ∷ r ∷ ss) = s ++ (mark ++ joined_by mark (r ∷ ss))

abbrev pub comma : Text
comma = codes ", "

abbrev pub tuple_text : List Text → Text
tuple_text (s ∷ []) = 40 ∷ (s ++ codes ",)")
tuple_text ss = between 40 (joined_by comma ss) 41

-- the numbers of an array of bytes
abbrev pub numbers : Trees → List ℕ
numbers none = []
numbers (first (number k n) vs) = n ∷ numbers vs
numbers (first _ vs) = numbers vs

-- bytes whose only zero byte is the last are a byte string
abbrev pub bytes_or : Option Text → Text → Text
bytes_or None s = s
bytes_or (Some bytes) s = byte_string bytes

-- elements in their brackets
abbrev pub bracketed : Ty → Trees → Text → Text
bracketed (entry k t) vs s = between 123 s 125
bracketed (basic byte) vs s = bytes_or (text_in (numbers vs)) (between 91 s 93)
bracketed t vs s = between 91 s 93

abbrev pub is_empty : Trees → Bool
is_empty none = true
is_empty (first v vs) = false

abbrev pub type_mark : Ty → Text
type_mark t = 64 ∷ (spelling t ++ 32 ∷ [])

-- Nothing, or Just of what ends so
abbrev pub ends_in_nothing : Tree → Bool
ends_in_nothing (node (maybe t) none) = true
ends_in_nothing (node (maybe t) (first v vs)) = ends_in_nothing v
ends_in_nothing _ = false

abbrev pub just_text : Trees → List Text → Text
just_text none ss = codes "nothing"
just_text (first v vs) ss = when (ends_in_nothing v) (codes "just ") ++ joined_by [] ss

unfoldable mutual
  -- a value's text, annotated or not; in_array: as an element of an array, where an entry has no braces
  pub text_of : Tree → Bool → Bool → Text
  text_of (number k n) annotated in_array = when annotated (word k) ++ figures k n
  text_of (text k s) annotated in_array = when annotated (word k) ++ quoted s
  text_of (node (basic k) vs) annotated in_array = []
  text_of (node variant vs) annotated in_array = between 60 (joined_by comma (texts vs true true false)) 62
  text_of (node (array t) vs) annotated in_array = when (annotated && is_empty vs) (type_mark (array t)) ++ bracketed t vs (joined_by comma (texts vs annotated false true))
  text_of (node (maybe t) vs) annotated in_array = when annotated (type_mark (maybe t)) ++ just_text vs (texts vs false false false)
  text_of (node (tuple ts) vs) annotated in_array = tuple_text (texts vs annotated annotated false)
  text_of (node (entry k t) vs) annotated true = joined_by (codes ": ") (texts vs annotated annotated false)
  text_of (node (entry k t) vs) annotated false = between 123 (joined_by comma (texts vs annotated annotated false)) 125

  -- the texts of values, the first of them annotated or not, and the rest
  pub texts : Trees → Bool → Bool → Bool → List Text
  texts none annotated rest in_array = []
  texts (first v vs) annotated rest in_array = text_of v annotated in_array ∷ texts vs rest rest in_array

-- the text of a value
abbrev pub printed : Tree → Bool → Text
printed v annotated = text_of v annotated false

-- ---- what is not printed

-- deeper than 128
abbrev pub is_too_large : Tree → Bool
is_too_large v = nat_lt 128 (depth v)

abbrev pub is_double_type : Basic → Bool
is_double_type double = true
is_double_type _ = false

-- a double is to be printed
unfoldable mutual
  pub holds_double : Tree → Bool
  holds_double (number k n) = is_double_type k
  holds_double (text k s) = false
  holds_double (node t vs) = hold_double vs

  pub hold_double : Trees → Bool
  hold_double none = false
  hold_double (first v vs) = holds_double v || hold_double vs
