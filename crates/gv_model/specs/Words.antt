-- The words of a text.
-- GLib, "GVariant Text Format", Syntax Summary.
use Rattle.std.specs.Prelude.{ℕ, ◌+◌, true, false, List, [], ◌∷◌, length, Option, Some, None, Result, ◌||◌, if◌then◌else◌, codes}
use Rattle.gv_model.specs.Ty.{Basic}
use Rattle.gv_model.specs.Ty.Basic.{boolean, byte, int16, uint16, int32, uint32, int64, uint64, handle, double, string, path, signature}
use Rattle.gv_model.specs.TextFault.{Fault, fault}
use Rattle.gv_model.specs.Tokens.{Word, Placed}
use Rattle.gv_model.specs.Characters.{same_text}
use Rattle.gv_model.specs.Numerals.{is_double_word, placed}
use Rattle.gv_model.specs.TextFault.Cause.{bad_token, double_text}
use Rattle.gv_model.specs.Tokens.Word.{truth, just, nothing, type_word}
use Rattle.gv_model.specs.Tokens.Token.{word}

-- the word that names a basic type; a text that has `double` is refused
abbrev pub keyword : Basic → List ℕ
keyword boolean = codes "boolean"
keyword byte = codes "byte"
keyword int16 = codes "int16"
keyword uint16 = codes "uint16"
keyword int32 = codes "int32"
keyword uint32 = codes "uint32"
keyword int64 = codes "int64"
keyword uint64 = codes "uint64"
keyword handle = codes "handle"
keyword double = codes "double"
keyword string = codes "string"
keyword path = codes "objectpath"
keyword signature = codes "signature"

abbrev pub words : List (List ℕ × Word)
words =
    (codes "true", truth true) ∷ (codes "false", truth false) ∷ (codes "just", just) ∷ (codes "nothing", nothing)
    ∷ (keyword boolean, type_word boolean) ∷ (keyword byte, type_word byte) ∷ (keyword int16, type_word int16)
    ∷ (keyword uint16, type_word uint16) ∷ (keyword int32, type_word int32) ∷ (keyword uint32, type_word uint32)
    ∷ (keyword handle, type_word handle) ∷ (keyword int64, type_word int64) ∷ (keyword uint64, type_word uint64)
    ∷ (keyword string, type_word string) ∷ (keyword path, type_word path) ∷ (keyword signature, type_word signature) ∷ []

unfoldable pub word_among : List (List ℕ × Word) → List ℕ → Option Word
word_among [] s = None
word_among (w ∷ ws) s = if same_text w.0 s then Some w.1 else word_among ws s

abbrev pub word_token : ℕ → List ℕ → Option Word → Result Placed Fault
word_token at s (Some w) = placed (word w) at (length s)
word_token at s None = fault (if is_double_word s || same_text s (keyword double) then double_text else bad_token) at (at + length s)

abbrev pub word_at : ℕ → List ℕ → Result Placed Fault
word_at at s = word_token at s (word_among words s)
