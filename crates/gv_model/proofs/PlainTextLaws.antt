-- The strings in a text's syntax tree have no zero byte.
use Rattle.std.proofs.Common.{◌≡◌, ℕ, suc, ◌+◌, Bool, true, false, cond, List, [], ◌∷◌, ◌++◌, length, Option, Some, None, refl, sym, ap, ◌∙◌, subst, arith, ne_eqb, nat_lt, ◌/◌, ◌%◌, ◌==◌, ◌&&◌, ◌||◌, not}
use Rattle.std.specs.Prelude.{encode_utf8}
use Rattle.std.specs.List.{AllByRecursion}
use Rattle.std.proofs.lemmas.List.Folds.{list_any-append}
use Rattle.std.proofs.lemmas.Bool.{not-true, and_parts}
use lib.Utf8.{encode as encode_char, next}
use Rattle.gv_model.specs.TextFault.{Fault}
use Rattle.gv_model.specs.TextFault.Cause.{bad_token, bad_escape}
use Rattle.gv_model.specs.Tokens.{Token, Placed}
use Rattle.gv_model.specs.Tokens.Token.{mark, string_token, byte_string, integer_token, type_token, word}
use Rattle.gv_model.specs.Tokens.Mark.{close_tuple, close_list, close_brace, close_box, comma, colon}
use Rattle.gv_model.specs.Characters.{is_digit_of, prefix_of}
use Rattle.gv_model.specs.Numerals.{number_after}
use Rattle.gv_model.specs.Strings.{StringStep, part, escape_in, escape, number_escape, letter_or_self, letter_meaning, at_most, is_scalar}
use Rattle.gv_model.specs.Strings.StringStep.{denotes, closes, faulty}
use Rattle.gv_model.specs.Lexing.{Begins, Lexes}
use Rattle.gv_model.specs.Grammar.{tokens_of, commas, members_tokens, pairs_tokens}
use Rattle.gv_model.specs.Parsing.{kinds, IsTree}
use Rattle.gv_model.specs.PlainTexts.{IsPlain, ArePlain, PairsPlain}
use Rattle.gv_model.specs.Syntax.{Syntax, Syntaxes, Pairs}
use Rattle.gv_model.specs.Syntax.Syntax.{truth, integer, quoted, bytes, list, tuple_of, dictionary, lone, boxed, just, nothing, at_type, keyword}
use Rattle.gv_model.specs.Syntax.Syntaxes.{none, first}
use Rattle.gv_model.specs.Syntax.Pairs.{no_pair, pair}
use Rattle.gv_model.specs.TextLaws.{StringPart, meant, written, AreParts}
use Rattle.gv_model.proofs.StringParts.{choose, string_parts}
use Rattle.gv_model.specs.Texts.{has_zero_byte}

abbrev NoZero : List ℕ → Type 0
NoZero s = has_zero_byte s ≡ false

no_zero_more : (c : ℕ) (s : List ℕ) → (c == 0) ≡ false → NoZero s → NoZero (c ∷ s)
no_zero_more c s e h = ap (λ b. b || has_zero_byte s) e ∙ h

no_zero_append : (s t : List ℕ) → NoZero s → NoZero t → NoZero (s ++ t)
no_zero_append s t h g = list_any-append (λ c. c == 0) s t ∙ (ap (λ b. b || has_zero_byte t) h ∙ g)

-- A character but zero, in UTF-8

either : (P : List ℕ → Type 0) (b : Bool) (x y : List ℕ) → P x → P y → P (cond b x y)
either P true x y h g = h
either P false x y h g = g

-- a byte with its high bits first
byte_more : (k n : ℕ) (s : List ℕ) → NoZero s → NoZero ((suc k + n) ∷ s)
byte_more k n s h = no_zero_more (suc k + n) s (ne_eqb (suc k + n) 0 (omega arith)) h

encoded_plain : (c : ℕ) → (c == 0) ≡ false → NoZero (encode_utf8 c)
unfolding encode_char
encoded_plain c e =
    let last : NoZero (next c ∷ []) = byte_more 127 (c % 64) [] refl in
    let two : NoZero (next (c / 64) ∷ next c ∷ []) = byte_more 127 (c / 64 % 64) (next c ∷ []) last in
    let three : NoZero (next (c / 4096) ∷ next (c / 64) ∷ next c ∷ []) = byte_more 127 (c / 4096 % 64) (next (c / 64) ∷ next c ∷ []) two in
    either NoZero (nat_lt c 128) (c ∷ []) (cond (nat_lt c 2048) ((192 + c / 64) ∷ next c ∷ []) (cond (nat_lt c 65536) ((224 + c / 4096) ∷ next (c / 64) ∷ next c ∷ []) ((240 + c / 262144) ∷ next (c / 4096) ∷ next (c / 64) ∷ next c ∷ [])))
    (no_zero_more c [] e refl)
    (either NoZero (nat_lt c 2048) ((192 + c / 64) ∷ next c ∷ []) (cond (nat_lt c 65536) ((224 + c / 4096) ∷ next (c / 64) ∷ next c ∷ []) ((240 + c / 262144) ∷ next (c / 4096) ∷ next (c / 64) ∷ next c ∷ []))
    (byte_more 191 (c / 64) (next c ∷ []) last)
    (either NoZero (nat_lt c 65536) ((224 + c / 4096) ∷ next (c / 64) ∷ next c ∷ []) ((240 + c / 262144) ∷ next (c / 4096) ∷ next (c / 64) ∷ next c ∷ [])
    (byte_more 223 (c / 4096) (next (c / 64) ∷ next c ∷ []) two)
    (byte_more 239 (c / 262144) (next (c / 4096) ∷ next (c / 64) ∷ next c ∷ []) three)))

-- A part of a string

abbrev IsPlainPart : StringStep → Type 0
IsPlainPart (denotes s n) = NoZero s
IsPlainPart closes = Unit {0}
IsPlainPart (faulty cause i j) = Unit {0}

abbrev LetterPlain : Option ℕ → Type 0
LetterPlain (Some l) = (l == 0) ≡ false
LetterPlain None = Unit {0}

either_letter : (b : Bool) (x y : Option ℕ) → LetterPlain x → LetterPlain y → LetterPlain (cond b x y)
either_letter true x y h g = h
either_letter false x y h g = g

letters_plain : (c : ℕ) → LetterPlain (letter_meaning c)
letters_plain c =
    either_letter (c == 97) (Some 7) _ refl
    (either_letter (c == 98) (Some 8) _ refl
    (either_letter (c == 102) (Some 12) _ refl
    (either_letter (c == 110) (Some 10) _ refl
    (either_letter (c == 114) (Some 13) _ refl
    (either_letter (c == 116) (Some 9) _ refl
    (either_letter (c == 118) (Some 11) None refl tt))))))

letter_plain : (o : Option ℕ) (c : ℕ) → LetterPlain o → IsPlainPart (letter_or_self o c)
letter_plain (Some l) c h = no_zero_more l [] h refl
letter_plain None c h =
    choose IsPlainPart (c == 10) (denotes [] 2) (cond (c == 0) (faulty bad_token 1 2) (denotes (c ∷ []) 2)) (λ e. refl)
    (λ e. choose IsPlainPart (c == 0) (faulty bad_token 1 2) (denotes (c ∷ []) 2) (λ f. tt) (λ f. no_zero_more c [] f refl))

number_plain : (n : ℕ) (digits : List ℕ) → IsPlainPart (number_escape n digits)
number_plain n digits =
    let v = number_after 16 0 digits in
    choose IsPlainPart (length digits == n && is_scalar v) (denotes (encode_utf8 v) (2 + n)) (faulty bad_escape 0 (2 + length digits))
    (λ e. encoded_plain v (not-true (v == 0) (and_parts (not (v == 0)) _ (and_parts (length digits == n) (is_scalar v) e).1).0)) (λ e. tt)

escape_plain : (c : ℕ) (cs : List ℕ) → IsPlainPart (escape c cs)
escape_plain c cs =
    let four = prefix_of (is_digit_of 16) (at_most 4 cs) in
    let eight = prefix_of (is_digit_of 16) (at_most 8 cs) in
    let self = letter_or_self (letter_meaning c) c in
    choose IsPlainPart (c == 117) (number_escape 4 four) (cond (c == 85) (number_escape 8 eight) self) (λ e. number_plain 4 four)
    (λ e. choose IsPlainPart (c == 85) (number_escape 8 eight) self (λ f. number_plain 8 eight) (λ f. letter_plain (letter_meaning c) c (letters_plain c)))

escape_in_plain : (cs : List ℕ) → IsPlainPart (escape_in false cs)
escape_in_plain [] = refl
escape_in_plain (c ∷ cs) = escape_plain c cs

part_plain : (quote c : ℕ) (cs : List ℕ) → IsPlainPart (part false quote c cs)
part_plain quote c cs =
    let other = cond (c == 92) (escape_in false cs) (denotes (c ∷ []) 1) in
    choose IsPlainPart (c == quote) closes (cond (c == 0) (faulty bad_token 0 1) other) (λ e. tt)
    (λ e. choose IsPlainPart (c == 0) (faulty bad_token 0 1) other (λ f. tt)
    (λ f. choose IsPlainPart (c == 92) (escape_in false cs) (denotes (c ∷ []) 1) (λ g. escape_in_plain cs) (λ g. no_zero_more c [] f refl)))

parts_plain : (quote : ℕ) (ps : List StringPart) (rest : List ℕ) → AreParts false quote ps rest → NoZero (meant ps)
unfolding meant written
parts_plain quote [] rest h = refl
parts_plain quote (p ∷ ps) rest h =
    let first = subst IsPlainPart h.0.3 (part_plain quote h.0.0 (h.0.1 ++ (written ps ++ rest))) in
    no_zero_append p.1 (meant ps) first (parts_plain quote ps rest h.1)

-- The tokens of a text

abbrev TokenPlain : Token → Type 0
TokenPlain (string_token s) = NoZero s
TokenPlain _ = Unit {0}

token_plain : (at : ℕ) (s : List ℕ) (t : Placed) → Begins at s t → (k : Token) → t.token ≡ k → TokenPlain k
token_plain at s t h (mark m) e = tt
token_plain at s t h (string_token x) e =
    let is = string_parts at s t x h e in
    subst NoZero (sym is.meaning) (parts_plain is.quote is.parts (is.quote ∷ is.after) is.each)
token_plain at s t h (byte_string x) e = tt
token_plain at s t h (integer_token negative n) e = tt
token_plain at s t h (type_token u) e = tt
token_plain at s t h (word w) e = tt

lexed_plain : (at : ℕ) (s : List ℕ) (ts : List Placed) (f : Option Fault) → Lexes at s ts f → AllByRecursion TokenPlain (kinds ts)
lexed_plain at s [] f h = tt
lexed_plain at s (t ∷ ts) f h = (token_plain _ _ t h.0 t.token refl, lexed_plain t.stop _ ts f h.1)

-- The trees of such tokens

apart : (xs ys : List Token) → AllByRecursion TokenPlain (xs ++ ys) → AllByRecursion TokenPlain xs × AllByRecursion TokenPlain ys
apart [] ys h = (tt, h)
apart (x ∷ xs) ys h = let rest = apart xs ys h.1 in ((h.0, rest.0), rest.1)

mutual
  unfolding tokens_of

  plain_tree : (x : Syntax) → AllByRecursion TokenPlain (tokens_of x) → IsPlain x
  plain_tree (truth b) h = tt
  plain_tree (integer negative n) h = tt
  plain_tree (quoted s) h = h.0
  plain_tree (bytes s) h = tt
  plain_tree (list xs) h = plain_list xs (apart (commas xs) (mark close_list ∷ []) h.1).0
  plain_tree (tuple_of xs) h = plain_members xs (apart (members_tokens xs) (mark close_tuple ∷ []) h.1).0
  plain_tree (dictionary ps) h = plain_pairs ps (apart (pairs_tokens ps) (mark close_brace ∷ []) h.1).0
  plain_tree (lone k v) h =
      let parts = apart (tokens_of k) (mark comma ∷ (tokens_of v ++ mark close_brace ∷ [])) h.1 in
      (plain_tree k parts.0, plain_tree v (apart (tokens_of v) (mark close_brace ∷ []) parts.1.1).0)
  plain_tree (boxed x) h = plain_tree x (apart (tokens_of x) (mark close_box ∷ []) h.1).0
  plain_tree (just x) h = plain_tree x h.1
  plain_tree nothing h = tt
  plain_tree (at_type t x) h = plain_tree x h.1
  plain_tree (keyword k x) h = plain_tree x h.1

  plain_list : (xs : Syntaxes) → AllByRecursion TokenPlain (commas xs) → ArePlain xs
  plain_list none h = tt
  plain_list (first x none) h = (plain_tree x h, tt)
  plain_list (first x (first y xs)) h =
      let parts = apart (tokens_of x) (mark comma ∷ commas (first y xs)) h in
      (plain_tree x parts.0, plain_list (first y xs) parts.1.1)

  plain_members : (xs : Syntaxes) → AllByRecursion TokenPlain (members_tokens xs) → ArePlain xs
  plain_members none h = tt
  plain_members (first x none) h = (plain_tree x (apart (tokens_of x) (mark comma ∷ []) h).0, tt)
  plain_members (first x (first y xs)) h =
      let parts = apart (tokens_of x) (mark comma ∷ commas (first y xs)) h in
      (plain_tree x parts.0, plain_list (first y xs) parts.1.1)

  plain_pairs : (ps : Pairs) → AllByRecursion TokenPlain (pairs_tokens ps) → PairsPlain ps
  plain_pairs no_pair h = tt
  plain_pairs (pair k v no_pair) h =
      let parts = apart (tokens_of k) (mark colon ∷ tokens_of v) h in
      (plain_tree k parts.0, plain_tree v parts.1.1, tt)
  plain_pairs (pair k v (pair j w ps)) h =
      let parts = apart (tokens_of k) (mark colon ∷ (tokens_of v ++ mark comma ∷ pairs_tokens (pair j w ps))) h in
      let later = apart (tokens_of v) (mark comma ∷ pairs_tokens (pair j w ps)) parts.1.1 in
      (plain_tree k parts.0, plain_tree v later.0, plain_pairs (pair j w ps) later.1.1)

pub tree_is_plain : (text : List ℕ) (x : Syntax) → IsTree text x → IsPlain x
tree_is_plain text x h = plain_tree x (subst (AllByRecursion TokenPlain) (sym h.spells) (lexed_plain 0 text h.placed None h.lexes))
