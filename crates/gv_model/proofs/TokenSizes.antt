-- A token takes at least the bytes that it is counted for, and none past the end of the text.
use Rattle.std.proofs.Common.{◌≡◌, ◌≤◌, ◌<◌, ℕ, zero, suc, ◌+◌, ◌-◌, Bool, true, false, cond, List, [], ◌∷◌, ◌++◌, length, drop, Option, Some, None, Result, Ok, Err, refl, ap, subst, arith}
use Rattle.std.proofs.lemmas.List.{length-drop, length-append}
use Rattle.gv_model.specs.Ty.{Ty, spelling}
use Rattle.gv_model.specs.TypeText.{type_of_text}
use Rattle.gv_model.specs.TextFault.{Fault}
use Rattle.gv_model.specs.Tokens.{Placed, Token, Mark, Word}
use Rattle.gv_model.specs.Tokens.Token.{string_token, byte_string}
use Rattle.gv_model.specs.Characters.{prefix_of, is_blank, is_word_byte}
use Rattle.gv_model.specs.Numerals.{run_of, run_after, number_token, begins_hex, without_sign, number_of}
use Rattle.gv_model.specs.Words.{words, word_among, word_token}
use Rattle.gv_model.specs.Strings.{StringStep, part, bytes_after, with_prefix, with_part, string_from, quoted_token}
use Rattle.gv_model.specs.Strings.StringStep.{denotes, closes, faulty}
use Rattle.gv_model.specs.Lexing.{Start, start, token_by, token_at, or_else, type_prefix, type_placed, mark_of_byte, mark_or_fault, Begins, Lexes, blanks}
use Rattle.gv_model.specs.Lexing.Start.{of_string, of_byte_string, of_word, of_number, of_type, of_mark}
use Rattle.gv_model.specs.Grammar.{least_bytes, tokens_bytes}
use Rattle.gv_model.specs.Parsing.{kinds}
use Rattle.gv_model.proofs.TokenLaws.{Past, string_past}
use Rattle.gv_model.proofs.TypeTextSound.{spelling_of_read}

-- Prefixes

or_none : (c : ℕ) (b : Bool) (s : List ℕ) (n : ℕ) → length s ≤ n → length (cond b (c ∷ s) []) ≤ suc n
or_none c true s n h = omega (arith, h)
or_none c false s n h = omega arith

pub prefix_short : (f : ℕ → Bool) (s : List ℕ) → length (prefix_of f s) ≤ length s
unfolding prefix_of
prefix_short f [] = omega arith
prefix_short f (c ∷ cs) = or_none c (f c) (prefix_of f cs) (length cs) (prefix_short f cs)

run_short : (hex : Bool) (c : ℕ) (s : List ℕ) → length (run_after hex c s) ≤ length s
unfolding run_after
run_short hex c [] = omega arith
run_short hex c (d ∷ ds) = or_none d _ (run_after hex d ds) (length ds) (run_short hex d ds)

-- Strings

abbrev Within : ℕ → Result (List ℕ × ℕ) Fault → Type 0
Within stop (Ok s) = s.1 ≤ stop
Within stop (Err e) = Unit {0}

within_prefix : (stop : ℕ) (s : List ℕ) (r : Result (List ℕ × ℕ) Fault) → Within stop r → Within stop (with_prefix s r)
within_prefix stop s (Ok x) h = h
within_prefix stop s (Err e) h = tt

within_part : (at stop : ℕ) (p : StringStep) (r : Result (List ℕ × ℕ) Fault) → at < stop → Within stop r → Within stop (with_part at p r)
within_part at stop (denotes s n) r b h = within_prefix stop s r h
within_part at stop closes r b h = omega (arith, b)
within_part at stop (faulty c i j) r b h = tt

string_within : (of_bytes : Bool) (quote from at skip stop : ℕ) (s : List ℕ) → at + length s ≤ stop → Within stop (string_from of_bytes quote from at skip s)
unfolding string_from
string_within of_bytes quote from at zero stop [] h = tt
string_within of_bytes quote from at (suc k) stop [] h = tt
string_within of_bytes quote from at (suc k) stop (c ∷ cs) h = string_within of_bytes quote from (suc at) k stop cs (omega (arith, h))
string_within of_bytes quote from at zero stop (c ∷ cs) h =
    within_part at stop (part of_bytes quote c cs) (string_from of_bytes quote from (suc at) (bytes_after (part of_bytes quote c cs)) cs) (omega (arith, h))
    (string_within of_bytes quote from (suc at) (bytes_after (part of_bytes quote c cs)) stop cs (omega (arith, h)))

-- Tokens: from a place on, up to a stop at most
pub record Fits (at stop : ℕ) (t : Placed) : Type 0 where
  pub enough : at + least_bytes t.token ≤ t.stop
  pub inside : t.stop ≤ stop

abbrev Sized : ℕ → ℕ → Result Placed Fault → Type 0
Sized at stop (Ok t) = Fits at stop t
Sized at stop (Err e) = Unit {0}

quoted_sized : (f : List ℕ → Token) (at from stop : ℕ) (r : Result (List ℕ × ℕ) Fault) → ((s : List ℕ) → least_bytes (f s) ≡ 1) → at ≤ from → Past from r → Within stop r → Sized at stop (quoted_token f at r)
quoted_sized f at from stop (Ok s) one h g w = record { enough = omega (arith, one s.0, h, g); inside = w }
quoted_sized f at from stop (Err e) one h g w = tt

word_sized : (at stop : ℕ) (s : List ℕ) (w : Option Word) → 1 ≤ length s → at + length s ≤ stop → Sized at stop (word_token at s w)
word_sized at stop s (Some w) p h = record { enough = omega (arith, p); inside = h }
word_sized at stop s None p h = tt

number_sized : (at stop : ℕ) (s : List ℕ) (n : Option ℕ) → 1 ≤ length s → at + length s ≤ stop → Sized at stop (number_token at s n)
number_sized at stop s (Some n) p h = record { enough = omega (arith, p); inside = h }
number_sized at stop s None p h = tt

mark_sized : (at stop c : ℕ) (m : Option Mark) → at + 1 ≤ stop → Sized at stop (mark_or_fault at c m)
mark_sized at stop c (Some m) h = record { enough = omega arith; inside = h }
mark_sized at stop c None h = tt

-- a type at the start takes no more than there is
abbrev Spelled : ℕ → Option Ty → Type 0
Spelled n (Some t) = length (spelling t) ≤ n
Spelled n None = Unit {0}

whole_spelled : (w : List ℕ) (n : ℕ) → length w ≤ n → Spelled n (type_of_text w)
whole_spelled w n h = go (type_of_text w) refl
  where
    go : (o : Option Ty) → type_of_text w ≡ o → Spelled n o
    go (Some t) e = omega (arith, ap length (spelling_of_read w t e).0, h)
    go None e = tt

either_spelled : (n : ℕ) (o p : Option Ty) → Spelled n o → Spelled n p → Spelled n (or_else o p)
either_spelled n (Some t) p h g = h
either_spelled n None p h g = g

type_spelled : (prefix cs : List ℕ) (n : ℕ) → length prefix + length cs ≤ n → Spelled n (type_prefix prefix cs)
unfolding type_prefix
type_spelled prefix [] n h = whole_spelled prefix n (omega (arith, h))
type_spelled prefix (c ∷ cs) n h =
    either_spelled n (type_of_text prefix) (type_prefix (prefix ++ c ∷ []) cs) (whole_spelled prefix n (omega (arith, h)))
    (type_spelled (prefix ++ c ∷ []) cs n (omega (arith, length-append prefix (c ∷ []), h)))

type_sized : (at stop n : ℕ) (t : Option Ty) → Spelled n t → at + suc n ≤ stop → Sized at stop (type_placed at t)
type_sized at stop n (Some t) h b = record { enough = omega arith; inside = omega (arith, h, b) }
type_sized at stop n None h b = tt

start_sized : (k : Start) (at c : ℕ) (cs : List ℕ) (stop : ℕ) → at + suc (length cs) ≤ stop → Sized at stop (token_by k at c cs)
start_sized of_string at c cs stop h =
    quoted_sized string_token at (suc at) stop (string_from false c at (suc at) 0 cs) (λ s. refl) (omega arith) (string_past false c at (suc at) 0 cs) (string_within false c at (suc at) 0 stop cs (omega (arith, h)))
start_sized of_byte_string at c [] stop h = tt
start_sized of_byte_string at c (q ∷ cs) stop h =
    quoted_sized byte_string at (suc (suc at)) stop (string_from true q (suc at) (suc (suc at)) 0 cs) (λ s. refl) (omega arith) (string_past true q (suc at) (suc (suc at)) 0 cs) (string_within true q (suc at) (suc (suc at)) 0 stop cs (omega (arith, h)))
start_sized of_word at c cs stop h =
    word_sized at stop (c ∷ prefix_of is_word_byte cs) (word_among words (c ∷ prefix_of is_word_byte cs)) (omega arith) (omega (arith, prefix_short is_word_byte cs, h))
start_sized of_number at c cs stop h =
    number_sized at stop (run_of c cs) (number_of (without_sign (run_of c cs))) (omega arith) (omega (arith, run_short (begins_hex (without_sign (c ∷ cs))) c cs, h))
start_sized of_type at c cs stop h = type_sized at stop (length cs) (type_prefix [] cs) (type_spelled [] cs (length cs) (omega arith)) h
start_sized of_mark at c cs stop h = mark_sized at stop c (mark_of_byte c) (omega (arith, h))

token_sized : (at c : ℕ) (cs : List ℕ) (stop : ℕ) → at + suc (length cs) ≤ stop → Sized at stop (token_at at c cs)
unfolding token_at
token_sized at c cs stop h = start_sized (start c cs) at c cs stop h

-- a token at the start of a text lies within it
pub token_fits : (at : ℕ) (s : List ℕ) (t : Placed) → Begins at s t → Fits at (at + length s) t
token_fits at [] t h = absurd h
token_fits at (c ∷ cs) t h = subst (λ (r : Result Placed Fault). Sized at (at + suc (length cs)) r) h (token_sized at c cs (at + suc (length cs)) (omega arith))

-- the tokens of a text take at least their bytes
pub tokens_fit : (at : ℕ) (s : List ℕ) (ts : List Placed) (f : Option Fault) → Lexes at s ts f → tokens_bytes (kinds ts) ≤ length s
unfolding tokens_bytes
tokens_fit at s [] f h = omega arith
tokens_fit at s (t ∷ ts) f h =
    let fits = token_fits (at + blanks s) (drop (blanks s) s) t h.0 in
    let later = tokens_fit t.stop (drop (t.stop - at) s) ts f h.1 in
    omega (arith, fits.enough, fits.inside, later, length-drop (blanks s) s, length-drop (t.stop - at) s, prefix_short is_blank s)
