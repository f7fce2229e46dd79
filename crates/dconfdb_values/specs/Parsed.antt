-- The value of a text, as C takes it, and why there is none.
use Rattle.std.specs.Prelude.{◌≡◌, ◌<◌, ◌++◌, ℕ, List, IsUtf8, Ok, Some, length}
use Rattle.gv_model.specs.Tree.{Tree, type_of}
use Rattle.gv_model.specs.TypeText.{type_at, type_of_text}
use Rattle.gv_model.specs.Decode.{decode}
use Rattle.gv_model.specs.Encode.{encode}
use Rattle.gv_model.specs.Limits.{limit}
use Rattle.gv_model.specs.Normal.{IsNormal}
use Rattle.gv_syntax.specs.declared.token.Span.{Span}
use Rattle.gv_syntax.specs.declared.fault.TextCause.{TextCause}
use Rattle.gv_syntax.specs.declared.fault.TextCause.TheVariants as causes
use Rattle.gv_infer.specs.Reads.{IsReadFlaw, Reads}
use Rattle.gv_infer.specs.ValueFaults.{value_flaw}
use Rattle.gv_infer.specs.declared.fault.ReadFlaw.TheVariants.{Text, Typing, Value}
use Rattle.gv_infer.specs.declared.fault.ValueFlaw.{ValueFlaw}
use Rattle.gv_infer.specs.declared.fault.ValueFlaw.TheVariants as values
use Rattle.dconfdb_values.specs.declared.parsing.Unparsed.{Unparsed}
use Rattle.dconfdb_values.specs.declared.parsing.Unparsed.TheVariants.{Memory, NotText, TooLong, TooLarge, Read}

-- the value's bytes, so many, and behind them a text that spells its type; at that they are this value, in normal form
pub record IsWritten (v : Tree) (block : List ℕ) (size : ℕ) : Type 0 where
  pub bytes : List ℕ
  pub type_text : List ℕ
  pub block_is : block ≡ bytes ++ type_text
  pub size_is : size ≡ length bytes
  pub typed : type_of_text type_text ≡ Some (type_of v)
  pub value_is : decode (type_at type_text) bytes ≡ v
  pub normal : IsNormal (type_at type_text) bytes

-- the text reads as a value, which is written so
pub record IsParsed (text block : List ℕ) (size : ℕ) : Type 0 where
  pub value : Tree
  pub reads : Reads text (Ok value)
  pub written : IsWritten value block size

-- ---- why there is none

-- a value has too many bytes, or an allocation failed
abbrev pub IsUnwritten : Tree → Unparsed → Type 0
IsUnwritten v Memory = Unit {0}
IsUnwritten v TooLarge = limit < length (encode v)
IsUnwritten v _ = ⊥

abbrev pub IsUnparsed : List ℕ → Unparsed → Type 0
IsUnparsed text Memory = Unit {0}
IsUnparsed text NotText = ¬ IsUtf8 text
IsUnparsed text TooLong = 16777216 < length text
IsUnparsed text TooLarge = (v : Tree) × Reads text (Ok v) × (limit < length (encode v))
IsUnparsed text (Read flaw) = IsReadFlaw text flaw

-- ---- what C is told of that

abbrev pub text_number : TextCause → ℕ
text_number causes.TooDeep = 17
text_number causes.DoubleText = 19
text_number causes.BadToken = 32
text_number causes.Unclosed = 33
text_number causes.BadEscape = 34
text_number causes.Unexpected = 35

abbrev pub value_number : ValueFlaw → ℕ
value_number values.TooDeep = 17
value_number values.DoubleText = 19
value_number values.NoCommonType = 36
value_number values.Ambiguous = 37
value_number values.OutOfRange = 38
value_number values.BadObjectPath = 39
value_number values.BadSignature = 40

abbrev pub unparsed_number : Unparsed → ℕ
unparsed_number Memory = 1
unparsed_number NotText = 8
unparsed_number TooLong = 17
unparsed_number TooLarge = 17
unparsed_number (Read (Text flaw)) = text_number flaw.cause
unparsed_number (Read (Typing flaw)) = value_number (value_flaw flaw)
unparsed_number (Read (Value flaw)) = value_number flaw

-- where the text's first fault is, if it is one of its tokens or of its syntax
abbrev pub place_of : Unparsed → Span
place_of (Read (Text flaw)) = flaw.span
place_of _ = record { start = 0; end = 0 }

-- the number and the place are told
abbrev pub IsUnparsedTold : List ℕ → ℕ → ℕ → ℕ → Type 0
IsUnparsedTold text number start end =
    (why : Unparsed) × (unparsed_number why ≡ number) × (place_of why ≡ record { start = start; end = end }) × IsUnparsed text why
