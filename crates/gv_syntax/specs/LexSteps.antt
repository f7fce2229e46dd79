-- What reading a token gives, in the words of the model.
use Rattle.std.specs.Prelude.{◌≡◌, ◌≤◌, ◌<◌, ℕ, suc, ◌+◌, ◌-◌, Bool, List, [], ◌∷◌, length, drop, get_or}
use Rattle.std.specs.Prelude.{Option, Some, None, Result, Ok, Err, MatchResult, IsTrue, encode_utf8}
use Rattle.gv_model.specs.Characters.{is_letter, is_quote}
use Rattle.gv_model.specs.TextFault.{Fault, fault}
use Rattle.gv_model.specs.Tokens.{Placed}
use Rattle.gv_model.specs.Strings.{StringStep as ThePart, string_from, with_part}
use Rattle.gv_model.specs.Strings.StringStep.{denotes, closes, faulty}
use Rattle.gv_model.specs.Lexing.{Start as TheStart}
use Rattle.gv_model.specs.Lexing.Start.{of_string, of_byte_string, of_word, of_number, of_type, of_mark}
use Rattle.gv_syntax.specs.ModelTokens.{placed_of, token_of, cause_of, fault_at_span}
use Rattle.gv_syntax.specs.declared.token.Token.{Token}
use Rattle.gv_syntax.specs.declared.token.TokenKind.{TokenKind}
use Rattle.gv_syntax.specs.declared.fault.TextCause.{TextCause}
use Rattle.refused.specs.declared.Refused.{Refused}
use Rattle.refused.specs.Faults.{OfFault}
use Rattle.gv_syntax.specs.declared.fault.TextFlaw.{TextFlaw}
use Rattle.gv_syntax.specs.declared.lexing.part.Part.{Part}
use Rattle.gv_syntax.specs.declared.lexing.part.Part.TheVariants.{Char, Closes, Faulty}
use Rattle.gv_syntax.specs.declared.lexing.start.Start.{Start}
use Rattle.gv_syntax.specs.declared.lexing.start.Start.TheVariants.{OfText, OfByteString, OfWord, OfNumber, OfType}
use Rattle.gv_syntax.specs.declared.lexing.start.Start.TheVariants.{OfMark}

-- a fault is what reading gives; running out of memory says nothing of the text
abbrev pub IsFaultOf : {A : Type 0} → Result A Fault → Refused TextFlaw → Type 0
IsFaultOf r fault = OfFault (λ f. r ≡ Err (fault_at_span f.cause f.span)) fault

-- reading gives this token, or this fault
abbrev pub IsLexed : Result Placed Fault → Result Token (Refused TextFlaw) → Type 0
IsLexed r found = MatchResult found (λ t. r ≡ Ok (placed_of t)) (IsFaultOf r)

-- a kind of token, or a cause, between two places
abbrev pub placed_as : Result TokenKind TextCause → ℕ → ℕ → Result Placed Fault
placed_as (Ok kind) start stop = Ok (record { token = token_of kind; start = start; stop = stop })
placed_as (Err cause) start stop = fault (cause_of cause) start stop

abbrev pub start_kind : Start → TheStart
start_kind OfText = of_string
start_kind OfByteString = of_byte_string
start_kind OfWord = of_word
start_kind OfNumber = of_number
start_kind OfType = of_type
start_kind OfMark = of_mark

-- what else is known of the first bytes
abbrev pub BeginsSo : Start → List ℕ → Type 0
BeginsSo OfText s = IsTrue (is_quote (get_or s 0 0))
BeginsSo OfByteString s = (1 < length s) × IsTrue (is_quote (get_or s 1 0))
BeginsSo OfWord s = IsTrue (is_letter (get_or s 0 0))
BeginsSo OfType s = get_or s 0 0 ≡ 64
BeginsSo _ s = Unit {0}

-- Parts of quoted texts

-- a character's bytes, or none
abbrev pub char_bytes : Option ℕ → List ℕ
char_bytes (Some c) = encode_utf8 c
char_bytes None = []

abbrev pub byte_alone : Option ℕ → List ℕ
byte_alone (Some c) = c ∷ []
byte_alone None = []

abbrev pub part_in : (Option ℕ → List ℕ) → Part ℕ → ThePart
part_in f (Char c n) = denotes (f c) n
part_in f Closes = closes
part_in f (Faulty cause from to) = faulty (cause_of cause) from to

abbrev pub text_part_of : Part ℕ → ThePart
text_part_of p = part_in char_bytes p

abbrev pub byte_part_of : Part ℕ → ThePart
byte_part_of p = part_in byte_alone p

abbrev pub size_of : ThePart → ℕ
size_of (denotes s n) = n
size_of _ = 1

-- a part takes some of the bytes that are there
abbrev pub TakesFrom : List ℕ → ThePart → Type 0
TakesFrom s (denotes x n) = (0 < n) × (n ≤ length s)
TakesFrom s closes = Unit {0}
TakesFrom s (faulty cause from to) = (from ≤ to) × (to ≤ length s)

-- and the last of them is an ASCII character
abbrev pub EndsInAscii : List ℕ → ThePart → Type 0
EndsInAscii s (denotes x n) = get_or s (n - 1) 0 < 128
EndsInAscii s _ = Unit {0}

-- a byte that stands for itself in a string
abbrev pub IsAsciiPart : Part ℕ → Type 0
IsAsciiPart (Char (Some c) n) = c < 128
IsAsciiPart _ = Unit {0}

-- such a part occurs at the start of the rest of a quoted text
abbrev pub BeginsWithPart : Bool → ℕ → List ℕ → ThePart → Type 0
BeginsWithPart of_bytes quote s p = (from at : ℕ)
    → string_from of_bytes quote from at 0 s ≡ with_part at p (string_from of_bytes quote from (at + size_of p) 0 (drop (size_of p) s))

-- the quoted text that begins with the quote at a place
abbrev pub quoted_at : Bool → List ℕ → ℕ → Result (List ℕ × ℕ) Fault
quoted_at of_bytes text from = string_from of_bytes (get_or text from 0) from (suc from) 0 (drop (suc from) text)
