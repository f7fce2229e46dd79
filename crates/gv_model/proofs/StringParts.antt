-- A string's token is a quote, parts and the quote again.
use Rattle.std.proofs.Common.{◌≡◌, ◌≤◌, ℕ, zero, suc, ◌+◌, ◌-◌, Bool, true, false, cond, List, [], ◌∷◌, ◌++◌, length, Option, Some, None, Result, Ok, Err, refl, sym, ap, ◌∙◌, subst, arith, append_assoc, eqb-true, nat_lt, ◌==◌, ◌&&◌, ◌||◌}
use Rattle.std.specs.Prelude.{encode_utf8}
use Rattle.std.proofs.lemmas.List.{length-append}
use Rattle.std.proofs.lemmas.Bool.{and_parts}
use Rattle.gv_model.specs.Ty.{Ty}
use Rattle.gv_model.specs.TextFault.{Fault}
use Rattle.gv_model.specs.TextFault.Cause.{bad_token, bad_escape}
use Rattle.gv_model.specs.Tokens.{Placed, Token, Mark, Word}
use Rattle.gv_model.specs.Tokens.Token.{string_token, byte_string}
use Rattle.gv_model.specs.Characters.{is_quote, is_letter, is_digit, is_sign, is_word_byte, is_digit_of, prefix_of, begins}
use Rattle.gv_model.specs.Numerals.{number_after, number_token, run_of, number_of, without_sign}
use Rattle.gv_model.specs.Words.{word_token, word_among, words}
use Rattle.gv_model.specs.Strings.{StringStep, part, escape_in, escape, byte_escape, octal_escape, number_escape, letter_or_self, letter_meaning, at_most, is_scalar, bytes_after, with_part, string_from, quoted_token}
use Rattle.gv_model.specs.Strings.StringStep.{denotes, closes, faulty}
use Rattle.gv_model.specs.Lexing.{Start, start, token_by, token_at, type_prefix, type_placed, mark_of_byte, mark_or_fault, Begins}
use Rattle.gv_model.specs.Lexing.Start.{of_string, of_byte_string, of_word, of_number, of_type, of_mark}
use Rattle.gv_model.specs.TextLaws.{StringPart, written, meant, IsStringPart, AreParts, IsQuoted}

-- A part takes a byte at least, and only the quote closes

pub choose : {X : Type 0} (P : X → Type 0) (b : Bool) (x y : X) → (b ≡ true → P x) → (b ≡ false → P y) → P (cond b x y)
choose P true x y h g = h refl
choose P false x y h g = g refl

abbrev Fine : Bool → StringStep → Type 0
Fine closing (denotes s n) = 1 ≤ n
Fine closing closes = closing ≡ true
Fine closing (faulty c i j) = Unit {0}

letter_fine : (q : Bool) (o : Option ℕ) (c : ℕ) → Fine q (letter_or_self o c)
letter_fine q (Some l) c = omega arith
letter_fine q None c = choose (Fine q) (c == 10) (denotes [] 2) (cond (c == 0) (faulty bad_token 1 2) (denotes (c ∷ []) 2)) (λ e. omega arith)
    (λ e. choose (Fine q) (c == 0) (faulty bad_token 1 2) (denotes (c ∷ []) 2) (λ f. tt) (λ f. omega arith))

number_fine : (q : Bool) (n : ℕ) (digits : List ℕ) → Fine q (number_escape n digits)
number_fine q n digits = choose (Fine q) (length digits == n && is_scalar (number_after 16 0 digits)) (denotes (encode_utf8 (number_after 16 0 digits)) (2 + n)) (faulty bad_escape 0 (2 + length digits)) (λ e. omega arith) (λ e. tt)

escape_fine : (q : Bool) (c : ℕ) (cs : List ℕ) → Fine q (escape c cs)
escape_fine q c cs =
    choose (Fine q) (c == 117) (number_escape 4 (prefix_of (is_digit_of 16) (at_most 4 cs))) (cond (c == 85) (number_escape 8 (prefix_of (is_digit_of 16) (at_most 8 cs))) (letter_or_self (letter_meaning c) c))
    (λ e. number_fine q 4 (prefix_of (is_digit_of 16) (at_most 4 cs)))
    (λ e. choose (Fine q) (c == 85) (number_escape 8 (prefix_of (is_digit_of 16) (at_most 8 cs))) (letter_or_self (letter_meaning c) c) (λ f. number_fine q 8 (prefix_of (is_digit_of 16) (at_most 8 cs))) (λ f. letter_fine q (letter_meaning c) c))

octal_fine : (q : Bool) (digits : List ℕ) → Fine q (octal_escape digits)
octal_fine q digits = choose (Fine q) (nat_lt (number_after 8 0 digits) 256) (denotes (number_after 8 0 digits ∷ []) (1 + length digits)) (faulty bad_escape 0 (1 + length digits)) (λ e. omega arith) (λ e. tt)

byte_fine : (q : Bool) (c : ℕ) (cs : List ℕ) → Fine q (byte_escape c cs)
byte_fine q c cs = choose (Fine q) (is_digit_of 8 c) (octal_escape (prefix_of (is_digit_of 8) (at_most 3 (c ∷ cs)))) (letter_or_self (letter_meaning c) c) (λ e. octal_fine q (prefix_of (is_digit_of 8) (at_most 3 (c ∷ cs)))) (λ e. letter_fine q (letter_meaning c) c)

any_escape_fine : (q of_bytes : Bool) (cs : List ℕ) → Fine q (escape_in of_bytes cs)
any_escape_fine q of_bytes [] = omega arith
any_escape_fine q of_bytes (c ∷ cs) = choose (Fine q) of_bytes (byte_escape c cs) (escape c cs) (λ e. byte_fine q c cs) (λ e. escape_fine q c cs)

part_fine : (of_bytes : Bool) (quote c : ℕ) (cs : List ℕ) → Fine (c == quote) (part of_bytes quote c cs)
part_fine of_bytes quote c cs =
    choose (Fine (c == quote)) (c == quote) closes (cond (c == 0) (faulty bad_token 0 1) (cond (c == 92) (escape_in of_bytes cs) (denotes (c ∷ []) 1))) (λ e. e)
    (λ e. choose (Fine (c == quote)) (c == 0) (faulty bad_token 0 1) (cond (c == 92) (escape_in of_bytes cs) (denotes (c ∷ []) 1)) (λ f. tt)
    (λ f. choose (Fine (c == quote)) (c == 92) (escape_in of_bytes cs) (denotes (c ∷ []) 1) (λ g. any_escape_fine (c == quote) of_bytes cs) (λ g. omega arith)))

-- From a place in a string on

pub record FromHere (of_bytes : Bool) (quote at : ℕ) (s string : List ℕ) (stop : ℕ) : Type 0 where
  pub parts : List StringPart
  pub after : List ℕ
  pub spells : s ≡ written parts ++ quote ∷ after
  pub each : AreParts of_bytes quote parts (quote ∷ after)
  pub meaning : string ≡ meant parts
  pub ends : stop ≡ at + (1 + length (written parts))

-- after bytes that still belong to the part before
pub record Later (of_bytes : Bool) (quote at skip : ℕ) (s string : List ℕ) (stop : ℕ) : Type 0 where
  pub prefix : List ℕ
  pub rest : List ℕ
  pub spells : s ≡ prefix ++ rest
  pub long : length prefix ≡ skip
  pub here : FromHere of_bytes quote (at + skip) rest string stop

abbrev as_ok : List ℕ × ℕ → Result (List ℕ × ℕ) Fault
as_ok r = Ok r

no_err_ok : (e : Fault) (r : List ℕ × ℕ) → Err e ≡ as_ok r → ⊥
no_err_ok e r h = cc

ok_same : (r t : List ℕ × ℕ) → as_ok r ≡ as_ok t → r ≡ t
ok_same r t h = cc

-- a part before what follows it
one_more_part : (of_bytes : Bool) (quote at c n : ℕ) (cs s x y : List ℕ) (stop : ℕ) → part of_bytes quote c cs ≡ denotes s n → 1 ≤ n → x ≡ s ++ y → Later of_bytes quote (suc at) (n - 1) cs y stop → Later of_bytes quote at 0 (c ∷ cs) x stop
unfolding written meant
one_more_part of_bytes quote at c n cs s x y stop is pos same l =
    let h = l.here in
    let size : length (c ∷ l.prefix) ≡ n = omega (arith, l.long, pos) in
    let rest : cs ≡ l.prefix ++ (written h.parts ++ quote ∷ h.after) = l.spells ∙ ap (λ r. l.prefix ++ r) h.spells in
    let first : IsStringPart of_bytes quote (c ∷ l.prefix, s) (written h.parts ++ quote ∷ h.after) = (c, l.prefix, refl, ap (part of_bytes quote c) (sym rest) ∙ (is ∙ ap (denotes s) (sym size))) in
    record {
      prefix = [];
      rest = c ∷ cs;
      spells = refl;
      long = refl;
      here = record {
        parts = (c ∷ l.prefix, s) ∷ h.parts;
        after = h.after;
        spells = ap (λ r. c ∷ r) (rest ∙ sym (append_assoc l.prefix (written h.parts) (quote ∷ h.after)));
        each = (first, h.each);
        meaning = same ∙ ap (λ r. s ++ r) h.meaning;
        ends = omega (arith, h.ends, size, pos, length-append (c ∷ l.prefix) (written h.parts));
      };
    }

from_part : (of_bytes : Bool) (quote at c : ℕ) (cs x : List ℕ) (stop : ℕ) (p : StringStep) → part of_bytes quote c cs ≡ p → Fine (c == quote) p → (later : Result (List ℕ × ℕ) Fault)
    → ((y : List ℕ) (k : ℕ) → later ≡ Ok (y, k) → Later of_bytes quote (suc at) (bytes_after p) cs y k)
    → with_part at p later ≡ Ok (x, stop) → Later of_bytes quote at 0 (c ∷ cs) x stop
unfolding written meant
from_part of_bytes quote at c cs x stop (denotes s n) is fine (Ok r) l e =
    let same = ok_same (s ++ r.0, r.1) (x, stop) e in
    one_more_part of_bytes quote at c n cs s x r.0 stop is fine (ap (λ (q : List ℕ × ℕ). q.0) (sym same)) (subst (λ (k : ℕ). Later of_bytes quote (suc at) (n - 1) cs r.0 k) (ap (λ (q : List ℕ × ℕ). q.1) same) (l r.0 r.1 refl))
from_part of_bytes quote at c cs x stop (denotes s n) is fine (Err f) l e = absurd (no_err_ok f (x, stop) e)
from_part of_bytes quote at c cs x stop closes is fine later l e =
    let same = ok_same ([], suc at) (x, stop) e in
    record {
      prefix = [];
      rest = c ∷ cs;
      spells = refl;
      long = refl;
      here = record {
        parts = [];
        after = cs;
        spells = ap (λ d. d ∷ cs) (eqb-true c quote fine);
        each = tt;
        meaning = ap (λ (q : List ℕ × ℕ). q.0) (sym same);
        ends = ap (λ (q : List ℕ × ℕ). q.1) (sym same) ∙ (let z : suc at ≡ at + 0 + (1 + 0) = omega arith in z);
      };
    }
from_part of_bytes quote at c cs x stop (faulty cause i j) is fine later l e = absurd (no_err_ok _ (x, stop) e)

from_here : (of_bytes : Bool) (quote from at skip : ℕ) (s x : List ℕ) (stop : ℕ) → string_from of_bytes quote from at skip s ≡ Ok (x, stop) → Later of_bytes quote at skip s x stop
unfolding string_from
from_here of_bytes quote from at zero [] x stop e = absurd (no_err_ok _ (x, stop) e)
from_here of_bytes quote from at (suc k) [] x stop e = absurd (no_err_ok _ (x, stop) e)
from_here of_bytes quote from at (suc k) (c ∷ cs) x stop e =
    let l = from_here of_bytes quote from (suc at) k cs x stop e in
    record {
      prefix = c ∷ l.prefix;
      rest = l.rest;
      spells = ap (λ r. c ∷ r) l.spells;
      long = omega (arith, l.long);
      here = subst (λ (n : ℕ). FromHere of_bytes quote n l.rest x stop) (let z : suc at + k ≡ at + suc k = omega arith in z) l.here;
    }
from_here of_bytes quote from at zero (c ∷ cs) x stop e =
    from_part of_bytes quote at c cs x stop (part of_bytes quote c cs) refl (part_fine of_bytes quote c cs) (string_from of_bytes quote from (suc at) (bytes_after (part of_bytes quote c cs)) cs)
    (λ y k. from_here of_bytes quote from (suc at) (bytes_after (part of_bytes quote c cs)) cs y k) e

from_start : (of_bytes : Bool) (quote from at : ℕ) (s x : List ℕ) (stop : ℕ) → string_from of_bytes quote from at 0 s ≡ Ok (x, stop) → FromHere of_bytes quote at s x stop
from_start of_bytes quote from at s x stop e = go (from_here of_bytes quote from at 0 s x stop e)
  where
    at_once : (prefix rest : List ℕ) → length prefix ≡ 0 → s ≡ prefix ++ rest → s ≡ rest
    at_once [] rest n e = e
    at_once (c ∷ cs) rest n e = absurd (omega (arith, n))

    go : Later of_bytes quote at 0 s x stop → FromHere of_bytes quote at s x stop
    go l =
        let here : FromHere of_bytes quote at l.rest x stop = subst (λ (n : ℕ). FromHere of_bytes quote n l.rest x stop) (let z : at + 0 ≡ at = omega arith in z) l.here in
        subst (λ (w : List ℕ). FromHere of_bytes quote at w x stop) (sym (at_once l.prefix l.rest l.long l.spells)) here

quoted : (of_bytes : Bool) (quote at : ℕ) (s x : List ℕ) (stop : ℕ) → is_quote quote ≡ true → FromHere of_bytes quote (suc at) s x stop → IsQuoted of_bytes at (quote ∷ s) stop x
quoted of_bytes quote at s x stop q h = record {
  quote = quote;
  parts = h.parts;
  after = h.after;
  is_one = q;
  spells = ap (λ r. quote ∷ r) h.spells;
  each = h.each;
  meaning = h.meaning;
  ends = h.ends ∙ (let n = length (written h.parts) in let z : suc at + (1 + n) ≡ at + (2 + n) = omega arith in z);
}

-- Tokens

abbrev TokenIs : ℕ → List ℕ → Result Placed Fault → Type 0
TokenIs at s (Err e) = Unit {0}
TokenIs at s (Ok t) =
    ((x : List ℕ) → t.token ≡ string_token x → IsQuoted false at s t.stop x)
    × ((x : List ℕ) → t.token ≡ byte_string x → (rest : List ℕ) × (s ≡ 98 ∷ rest) × IsQuoted true (suc at) rest t.stop x)

string_same : (x y : List ℕ) → string_token x ≡ string_token y → x ≡ y
string_same x y e = cc

bytes_same : (x y : List ℕ) → byte_string x ≡ byte_string y → x ≡ y
bytes_same x y e = cc

string_is : (at c : ℕ) (cs : List ℕ) → is_quote c ≡ true → (r : Result (List ℕ × ℕ) Fault) → string_from false c at (suc at) 0 cs ≡ r → TokenIs at (c ∷ cs) (quoted_token string_token at r)
string_is at c cs q (Err e) is = tt
string_is at c cs q (Ok r) is = (
  (λ x e. subst (λ (y : List ℕ). IsQuoted false at (c ∷ cs) r.1 y) (string_same r.0 x e) (quoted false c at cs r.0 r.1 q (from_start false c at (suc at) cs r.0 r.1 is))),
  (λ x e. absurd (no_bytes r.0 x e)),
)
  where
    no_bytes : (x y : List ℕ) → string_token x ≡ byte_string y → ⊥
    no_bytes x y e = cc

bytes_is : (at c q : ℕ) (cs : List ℕ) → c ≡ 98 → is_quote q ≡ true → (r : Result (List ℕ × ℕ) Fault) → string_from true q (suc at) (suc (suc at)) 0 cs ≡ r → TokenIs at (c ∷ q ∷ cs) (quoted_token byte_string at r)
bytes_is at c q cs b is_one (Err e) is = tt
bytes_is at c q cs b is_one (Ok r) is = (
  (λ x e. absurd (no_string r.0 x e)),
  (λ x e. (q ∷ cs, ap (λ d. d ∷ q ∷ cs) b, subst (λ (y : List ℕ). IsQuoted true (suc at) (q ∷ cs) r.1 y) (bytes_same r.0 x e) (quoted true q (suc at) cs r.0 r.1 is_one (from_start true q (suc at) (suc (suc at)) cs r.0 r.1 is)))),
)
  where
    no_string : (x y : List ℕ) → byte_string x ≡ string_token y → ⊥
    no_string x y e = cc

word_is : (at n : ℕ) (s w : List ℕ) (o : Option Word) → TokenIs at s (word_token n w o)
word_is at n s w (Some v) = ((λ x e. absurd (no_string x e)), (λ x e. absurd (no_bytes x e)))
  where
    no_string : (y : List ℕ) → Token.word v ≡ string_token y → ⊥
    no_string y e = cc

    no_bytes : (y : List ℕ) → Token.word v ≡ byte_string y → ⊥
    no_bytes y e = cc
word_is at n s w None = tt

number_is : (at n : ℕ) (s w : List ℕ) (o : Option ℕ) → TokenIs at s (number_token n w o)
number_is at n s w (Some i) = ((λ x e. absurd (no_string _ x e)), (λ x e. absurd (no_bytes _ x e)))
  where
    no_string : (b : Bool) (y : List ℕ) → Token.integer_token b i ≡ string_token y → ⊥
    no_string b y e = cc

    no_bytes : (b : Bool) (y : List ℕ) → Token.integer_token b i ≡ byte_string y → ⊥
    no_bytes b y e = cc
number_is at n s w None = tt

type_is : (at n : ℕ) (s : List ℕ) (o : Option Ty) → TokenIs at s (type_placed n o)
type_is at n s (Some t) = ((λ x e. absurd (no_string x e)), (λ x e. absurd (no_bytes x e)))
  where
    no_string : (y : List ℕ) → Token.type_token t ≡ string_token y → ⊥
    no_string y e = cc

    no_bytes : (y : List ℕ) → Token.type_token t ≡ byte_string y → ⊥
    no_bytes y e = cc
type_is at n s None = tt

mark_is : (at n c : ℕ) (s : List ℕ) (o : Option Mark) → TokenIs at s (mark_or_fault n c o)
mark_is at n c s (Some m) = ((λ x e. absurd (no_string x e)), (λ x e. absurd (no_bytes x e)))
  where
    no_string : (y : List ℕ) → Token.mark m ≡ string_token y → ⊥
    no_string y e = cc

    no_bytes : (y : List ℕ) → Token.mark m ≡ byte_string y → ⊥
    no_bytes y e = cc
mark_is at n c s None = tt

-- what begins with a quote, or with a `b` and a quote

abbrev Begun : ℕ → List ℕ → Start → Type 0
Begun c cs of_string = is_quote c ≡ true
Begun c cs of_byte_string = (c ≡ 98) × (begins is_quote cs ≡ true)
Begun c cs k = Unit {0}

pub pick : {X : Type 0} (P : X → Type 0) (b : Bool) (x y : X) → (b ≡ true → P x) → P y → P (cond b x y)
pick P true x y h g = h refl
pick P false x y h g = g

start_begun : (c : ℕ) (cs : List ℕ) → Begun c cs (start c cs)
start_begun c cs =
    pick (Begun c cs) (is_quote c) of_string _ (λ e. e)
    (pick (Begun c cs) (c == 98 && begins is_quote cs) of_byte_string _ (λ e. let h = and_parts (c == 98) (begins is_quote cs) e in (eqb-true c 98 h.0, h.1))
    (pick (Begun c cs) (is_letter c) of_word _ (λ e. tt)
    (pick (Begun c cs) (is_digit c || is_sign c || c == 46) of_number _ (λ e. tt)
    (pick (Begun c cs) (c == 64) of_type of_mark (λ e. tt) tt))))

begun_is : (k : Start) (at c : ℕ) (cs : List ℕ) → Begun c cs k → TokenIs at (c ∷ cs) (token_by k at c cs)
begun_is of_string at c cs h = string_is at c cs h (string_from false c at (suc at) 0 cs) refl
begun_is of_byte_string at c [] h = tt
begun_is of_byte_string at c (q ∷ cs) h = bytes_is at c q cs h.0 h.1 (string_from true q (suc at) (suc (suc at)) 0 cs) refl
begun_is of_word at c cs h = word_is at at (c ∷ cs) (c ∷ prefix_of is_word_byte cs) (word_among words (c ∷ prefix_of is_word_byte cs))
begun_is of_number at c cs h = number_is at at (c ∷ cs) (run_of c cs) (number_of (without_sign (run_of c cs)))
begun_is of_type at c cs h = type_is at at (c ∷ cs) (type_prefix [] cs)
begun_is of_mark at c cs h = mark_is at at c (c ∷ cs) (mark_of_byte c)

token_is : (at : ℕ) (s : List ℕ) (t : Placed) → Begins at s t → TokenIs at s (Ok t)
unfolding token_at
token_is at [] t h = absurd h
token_is at (c ∷ cs) t h = subst (λ (r : Result Placed Fault). TokenIs at (c ∷ cs) r) h (begun_is (start c cs) at c cs (start_begun c cs))

pub string_parts : (at : ℕ) (s : List ℕ) (t : Placed) (x : List ℕ) → Begins at s t → t.token ≡ string_token x → IsQuoted false at s t.stop x
string_parts at s t x h e = (token_is at s t h).0 x e

pub byte_string_parts : (at : ℕ) (s : List ℕ) (t : Placed) (x : List ℕ) → Begins at s t → t.token ≡ byte_string x → (rest : List ℕ) × (s ≡ 98 ∷ rest) × IsQuoted true (suc at) rest t.stop x
byte_string_parts at s t x h e = (token_is at s t h).1 x e
