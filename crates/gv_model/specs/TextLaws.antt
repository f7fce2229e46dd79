-- Laws of the meaning of text.
use Rattle.std.specs.Prelude.{◌≡◌, ◌≤◌, ◌<◌, ◌⊎◌, ℕ, suc, ◌+◌, ◌-◌, ◌↔◌, Bool, true, false, List, [], ◌∷◌, ◌++◌, length, take, drop, Option, Some, None, Result}
use Rattle.gv_model.specs.TextFault.{Fault}
use Rattle.gv_model.specs.TextFault.Cause.{unclosed, unexpected, too_deep}
use Rattle.gv_model.specs.Tokens.{Token, Placed}
use Rattle.gv_model.specs.Tokens.Mark.{open_tuple, close_tuple, open_list, close_list, open_brace, close_brace, open_box, close_box}
use Rattle.gv_model.specs.Tokens.Word.{nothing as nothing_word}
use Rattle.gv_model.specs.Tokens.Token.{mark, string_token, byte_string, word}
use Rattle.gv_model.specs.Characters.{is_quote}
use Rattle.gv_model.specs.Strings.{part}
use Rattle.gv_model.specs.Strings.StringStep.{denotes}
use Rattle.gv_model.specs.Lexing.{Begins, Lexes}
use Rattle.gv_model.specs.Syntax.{Syntax, levels}
use Rattle.gv_model.specs.Grammar.{tokens_of}
use Rattle.gv_model.specs.GrammarFaults.{NumberedFault, grammar_fault}
use Rattle.gv_model.specs.Parsing.{IsTree, Parses}
use Rattle.gv_model.specs.PlainTexts.{IsPlain}
use Rattle.gv_model.specs.Ty.{Ty}
use Rattle.gv_model.specs.Admits.{Admits}
use Rattle.gv_model.specs.Order.{Below}
use Rattle.gv_model.specs.Chosen.{Chosen}

-- each text has tokens, up to its end or a fault
abbrev pub EachTextLexes : Type 0
EachTextLexes = (text : List ℕ) → (ts : List Placed) × (f : Option Fault) × Lexes 0 text ts f

-- and no others
abbrev pub HasOneLexing : Type 0
HasOneLexing = (text : List ℕ) (ts us : List Placed) (f g : Option Fault) → Lexes 0 text ts f → Lexes 0 text us g → (ts ≡ us) × (f ≡ g)

-- A part of a string: its bytes in the text, and what it stands for
abbrev pub StringPart : Type 0
StringPart = List ℕ × List ℕ

unfoldable pub written : List StringPart → List ℕ
written [] = []
written (p ∷ ps) = p.0 ++ written ps

unfoldable pub meant : List StringPart → List ℕ
meant [] = []
meant (p ∷ ps) = p.1 ++ meant ps

-- a character or an escape, with that text after it
abbrev pub IsStringPart : Bool → ℕ → StringPart → List ℕ → Type 0
IsStringPart of_bytes quote p rest = (c : ℕ) × (cs : List ℕ) × (p.0 ≡ c ∷ cs) × (part of_bytes quote c (cs ++ rest) ≡ denotes p.1 (length p.0))

abbrev pub AreParts : Bool → ℕ → List StringPart → List ℕ → Type 0
AreParts of_bytes quote [] rest = Unit {0}
AreParts of_bytes quote (p ∷ ps) rest = IsStringPart of_bytes quote p (written ps ++ rest) × AreParts of_bytes quote ps rest

-- A text from a place on is a quote, parts and the same quote, which ends there, and the parts stand for that string.
pub record IsQuoted (of_bytes : Bool) (at : ℕ) (s : List ℕ) (stop : ℕ) (string : List ℕ) : Type 0 where
  pub quote : ℕ
  pub parts : List StringPart
  pub after : List ℕ
  pub is_one : is_quote quote ≡ true
  pub spells : s ≡ quote ∷ (written parts ++ quote ∷ after)
  pub each : AreParts of_bytes quote parts (quote ∷ after)
  pub meaning : string ≡ meant parts
  pub ends : stop ≡ at + (2 + length (written parts))

-- a string is so
abbrev pub StringIsParts : Type 0
StringIsParts = (at : ℕ) (s : List ℕ) (t : Placed) (string : List ℕ) → Begins at s t → t.token ≡ string_token string → IsQuoted false at s t.stop string

-- so is a byte string, after its `b`
abbrev pub ByteStringIsParts : Type 0
ByteStringIsParts = (at : ℕ) (s : List ℕ) (t : Placed) (string : List ℕ) → Begins at s t → t.token ≡ byte_string string
    → (rest : List ℕ) × (s ≡ 98 ∷ rest) × IsQuoted true (suc at) rest t.stop string

-- a text's tree has no zero byte in a string
abbrev pub StringsArePlain : Type 0
StringsArePlain = (text : List ℕ) (x : Syntax) → IsTree text x → IsPlain x

-- no tree's tokens begin another tree's
abbrev pub NoTreeBeginsAnother : Type 0
NoTreeBeginsAnother = (x y : Syntax) (ts us : List Token) → tokens_of x ++ ts ≡ tokens_of y ++ us → (x ≡ y) × (ts ≡ us)

-- no tree within the depth has a fault
abbrev pub TreesHaveNoFault : Type 0
TreesHaveNoFault = (x : Syntax) → levels x ≤ 128 → grammar_fault (tokens_of x) ≡ None

-- tokens without a fault are those of a tree within the depth
abbrev pub FaultlessIsTree : Type 0
FaultlessIsTree = (ts : List Token) → grammar_fault ts ≡ None → (x : Syntax) × (tokens_of x ≡ ts) × (levels x ≤ 128)

-- the brackets that are open after a token, by their tokens' numbers, the innermost first
abbrev pub after_bracket : ℕ → List ℕ → Token → List ℕ
after_bracket n opens (mark open_tuple) = n ∷ opens
after_bracket n opens (mark open_list) = n ∷ opens
after_bracket n opens (mark open_brace) = n ∷ opens
after_bracket n opens (mark open_box) = n ∷ opens
after_bracket n opens (mark close_tuple) = drop 1 opens
after_bracket n opens (mark close_list) = drop 1 opens
after_bracket n opens (mark close_brace) = drop 1 opens
after_bracket n opens (mark close_box) = drop 1 opens
after_bracket n opens t = opens

-- the same after tokens, of which the first has the number n
unfoldable pub open_brackets : ℕ → List ℕ → List Token → List ℕ
open_brackets n opens [] = opens
open_brackets n opens (t ∷ ts) = open_brackets (suc n) (after_bracket n opens t) ts

-- tokens begin those of a syntax tree that has so many levels at most
abbrev pub BeginsWithin : ℕ → List Token → Type 0
BeginsWithin l ts = (x : Syntax) × (us : List Token) × (tokens_of x ≡ ts ++ us) × (levels x ≤ l)

-- of any syntax tree
abbrev pub BeginsTree : List Token → Type 0
BeginsTree ts = (x : Syntax) × (us : List Token) × (tokens_of x ≡ ts ++ us)

-- The first n tokens begin a syntax tree's, and each value that begins in them is at most 128 levels deep: so they begin
-- a tree's that has no more levels, or do with `nothing` in the place of the last of them, which may be a `just` or
-- another that wants a value a level deeper.
abbrev pub IsShallow : List Token → ℕ → Type 0
IsShallow ts n = BeginsTree (take n ts) × (BeginsWithin 128 (take n ts) ⊎ BeginsWithin 128 (take (n - 1) ts ++ word nothing_word ∷ []))

-- all tokens do, and they are no tree's themselves
abbrev pub IsUnfinished : List Token → Type 0
IsUnfinished ts = IsShallow ts (length ts) × ((x : Syntax) → tokens_of x ≡ ts → ⊥)

-- What a fault says. Unexpected: the tokens before it begin a tree's and are shallow, but with it they begin none's; or
-- the tokens end where no bracket is open, and are unfinished. Too deep: the tokens before it are shallow, and with it
-- they begin a tree's, but are not shallow. Unclosed: the tokens are unfinished, and it is the innermost bracket that
-- is open.
abbrev pub EndsPrefix : List Token → NumberedFault → Type 0
EndsPrefix ts (unexpected, n) = ((n < length ts) × IsShallow ts n × (BeginsTree (take (suc n) ts) → ⊥)) ⊎ ((n ≡ length ts) × IsUnfinished ts × (open_brackets 0 [] ts ≡ []))
EndsPrefix ts (too_deep, n) = (n < length ts) × IsShallow ts n × BeginsTree (take (suc n) ts) × (IsShallow ts (suc n) → ⊥)
EndsPrefix ts (unclosed, n) = IsUnfinished ts × ((outer : List ℕ) × (open_brackets 0 [] ts ≡ n ∷ outer))
EndsPrefix ts f = ⊥

-- a fault is that of tokens exactly where it says so of them
abbrev pub FaultEndsPrefix : Type 0
FaultEndsPrefix = (ts : List Token) (f : NumberedFault) → (grammar_fault ts ≡ Some f) ↔ EndsPrefix ts f

-- and no other fault does
abbrev pub EndsOnePrefix : Type 0
EndsOnePrefix = (ts : List Token) (f g : NumberedFault) → EndsPrefix ts f → EndsPrefix ts g → f ≡ g

-- each text has a syntax tree or a fault
abbrev pub EachTextParses : Type 0
EachTextParses = (text : List ℕ) → (r : Result Syntax Fault) × Parses text r

-- and one of them alone
abbrev pub HasOneOutcome : Type 0
HasOneOutcome = (text : List ℕ) (r s : Result Syntax Fault) → Parses text r → Parses text s → r ≡ s

-- a syntax tree admits a type, or doesn't
abbrev pub AdmitsOrNot : Type 0
AdmitsOrNot = (x : Syntax) (t : Ty) → Admits x t ⊎ (Admits x t → ⊥)

-- each type is below itself
abbrev pub IsBelowItself : Type 0
IsBelowItself = (t : Ty) → Below t t

-- what is below a type is below all that the type is below
abbrev pub IsBelowThird : Type 0
IsBelowThird = (s t u : Ty) → Below s t → Below t u → Below s u

-- no two types are below each other
abbrev pub IsBelowOneWay : Type 0
IsBelowOneWay = (t u : Ty) → Below t u → Below u t → t ≡ u

-- a syntax tree has one chosen type at most
abbrev pub HasOneChosen : Type 0
HasOneChosen = (x : Syntax) (t u : Ty) → Chosen x t → Chosen x u → t ≡ u
