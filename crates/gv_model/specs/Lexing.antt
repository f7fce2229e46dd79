-- The tokens of a text, with blanks between, up to its end or its first fault.
-- GLib, "GVariant Text Format".
use Rattle.std.specs.Prelude.{◌≡◌, ℕ, suc, ◌+◌, ◌-◌, true, false, List, [], ◌∷◌, ◌++◌, length, drop, Option, Some, None, Result, Ok, Err, ◌==◌, ◌&&◌, ◌||◌, if◌then◌else◌}
use Rattle.gv_model.specs.Ty.{Ty, spelling}
use Rattle.gv_model.specs.TypeText.{type_of_text}
use Rattle.gv_model.specs.TextFault.{Fault, fault}
use Rattle.gv_model.specs.Tokens.{Mark, Placed}
use Rattle.gv_model.specs.Characters.{is_blank, is_digit, is_letter, is_word_byte, is_sign, is_quote, char_len, prefix_of, begins}
use Rattle.gv_model.specs.Numerals.{run_of, placed, number_at}
use Rattle.gv_model.specs.Words.{word_at}
use Rattle.gv_model.specs.Strings.{string_from, quoted_token}
use Rattle.gv_model.specs.TextFault.Cause.{bad_token}
use Rattle.gv_model.specs.Tokens.Mark.{open_tuple, close_tuple, open_list, close_list, open_brace, close_brace, open_box, close_box, comma, colon}
use Rattle.gv_model.specs.Tokens.Token.{mark, string_token, byte_string, type_token}

abbrev pub or_else : Option Ty → Option Ty → Option Ty
or_else (Some t) other = Some t
or_else None other = other

-- the type that some prefix of a text spells: no type's text begins another's
unfoldable pub type_prefix : List ℕ → List ℕ → Option Ty
type_prefix prefix [] = type_of_text prefix
type_prefix prefix (c ∷ cs) = or_else (type_of_text prefix) (type_prefix (prefix ++ c ∷ []) cs)

abbrev pub type_placed : ℕ → Option Ty → Result Placed Fault
type_placed at (Some t) = placed (type_token t) at (suc (length (spelling t)))
type_placed at None = fault bad_token at (suc at)

-- Tokens

abbrev pub mark_of_byte : ℕ → Option Mark
mark_of_byte c =
    if c == 40 then Some open_tuple else if c == 41 then Some close_tuple else if c == 91 then Some open_list else if c == 93 then Some close_list
    else if c == 123 then Some open_brace else if c == 125 then Some close_brace else if c == 60 then Some open_box else if c == 62 then Some close_box
    else if c == 44 then Some comma else if c == 58 then Some colon else None

abbrev pub mark_or_fault : ℕ → ℕ → Option Mark → Result Placed Fault
mark_or_fault at c (Some m) = placed (mark m) at 1
mark_or_fault at c None = fault bad_token at (at + char_len c)

-- what begins with a character
pub data Start : Type 0 where
  of_string of_byte_string of_word of_number of_type of_mark : Start

abbrev pub start : ℕ → List ℕ → Start
start c cs =
    if is_quote c then of_string else if c == 98 && begins is_quote cs then of_byte_string else if is_letter c then of_word
    else if is_digit c || is_sign c || c == 46 then of_number else if c == 64 then of_type else of_mark

abbrev pub token_by : Start → ℕ → ℕ → List ℕ → Result Placed Fault
token_by of_string at c cs = quoted_token string_token at (string_from false c at (suc at) 0 cs)
token_by of_byte_string at c [] = fault bad_token at (suc at)
token_by of_byte_string at c (q ∷ cs) = quoted_token byte_string at (string_from true q (suc at) (suc (suc at)) 0 cs)
token_by of_word at c cs = word_at at (c ∷ prefix_of is_word_byte cs)
token_by of_number at c cs = number_at at (run_of c cs)
token_by of_type at c cs = type_placed at (type_prefix [] cs)
token_by of_mark at c cs = mark_or_fault at c (mark_of_byte c)

-- the token that begins with c at a place, cs being what follows c
unfoldable pub token_at : ℕ → ℕ → List ℕ → Result Placed Fault
token_at at c cs = token_by (start c cs) at c cs

-- After its blanks a text is at its end, or a fault is there
abbrev pub EndsWith : ℕ → List ℕ → Option Fault → Type 0
EndsWith at [] f = f ≡ None
EndsWith at (c ∷ cs) f = (e : Fault) × (token_at at c cs ≡ Err e) × (f ≡ Some e)

abbrev pub Begins : ℕ → List ℕ → Placed → Type 0
Begins at [] t = ⊥
Begins at (c ∷ cs) t = token_at at c cs ≡ Ok t

abbrev pub blanks : List ℕ → ℕ
blanks s = length (prefix_of is_blank s)

-- A text from a place on is these tokens with blanks between, and then its end or a fault.
abbrev pub Lexes : ℕ → List ℕ → List Placed → Option Fault → Type 0
Lexes at s [] f = EndsWith (at + blanks s) (drop (blanks s) s) f
Lexes at s (t ∷ ts) f = Begins (at + blanks s) (drop (blanks s) s) t × Lexes t.stop (drop (t.stop - at) s) ts f
