-- A text has exactly one list of tokens with its fault.
use Rattle.std.proofs.Common.{◌≡◌, ◌≤◌, ◌<◌, ℕ, zero, suc, ◌+◌, ◌-◌, Bool, true, false, cond, List, [], ◌∷◌, drop, Option, Some, None, Result, Ok, Err, refl, sym, ap, ap₂, ◌∙◌, subst, arith}
use Rattle.gv_model.specs.Ty.{Ty}
use Rattle.gv_model.specs.Tokens.{Placed, Token, Mark, Word}
use Rattle.gv_model.specs.TextFault.{Fault}
use Rattle.gv_model.specs.Strings.{StringStep, string_from, with_part, with_prefix, quoted_token, part, bytes_after}
use Rattle.gv_model.specs.Lexing.{token_at, type_placed, mark_or_fault, Begins, EndsWith, Lexes, blanks, Start, start, token_by, type_prefix, mark_of_byte}
use Rattle.gv_model.specs.Words.{word_token, word_among, words}
use Rattle.gv_model.specs.Numerals.{number_token, run_of, run_after, begins_hex, without_sign, number_of}
use Rattle.gv_model.specs.Characters.{prefix_of, is_blank, is_word_byte}
use Rattle.gv_model.specs.Lexed.{lexed, Lexed, lexeme_at, bytes_taken, with_item}
use Rattle.gv_model.specs.Lexing.Start.{of_string, of_byte_string, of_word, of_number, of_type, of_mark}
use Rattle.gv_model.specs.Tokens.Token.{string_token, byte_string}
use Rattle.gv_model.specs.Strings.StringStep.{denotes, closes, faulty}
use Rattle.gv_model.specs.Lexed.Lexeme.{blank, item}

-- A token takes a byte at least

abbrev Ahead : ℕ → Result Placed Fault → Type 0
Ahead at (Ok t) = at < t.stop
Ahead at (Err e) = Unit {0}

abbrev pub Past : ℕ → Result (List ℕ × ℕ) Fault → Type 0
Past at (Ok s) = at < s.1
Past at (Err e) = Unit {0}

past_prefix : (at : ℕ) (s : List ℕ) (r : Result (List ℕ × ℕ) Fault) → Past (suc at) r → Past at (with_prefix s r)
past_prefix at s (Ok x) h = omega arith
past_prefix at s (Err e) h = tt

past_part : (at : ℕ) (p : StringStep) (r : Result (List ℕ × ℕ) Fault) → Past (suc at) r → Past at (with_part at p r)
past_part at (denotes s n) r h = past_prefix at s r h
past_part at closes r h = omega arith
past_part at (faulty c a b) r h = tt

past_less : (at : ℕ) (r : Result (List ℕ × ℕ) Fault) → Past (suc at) r → Past at r
past_less at (Ok x) h = omega arith
past_less at (Err e) h = tt

pub string_past : (of_bytes : Bool) (quote from at skip : ℕ) (s : List ℕ) → Past at (string_from of_bytes quote from at skip s)
unfolding string_from
string_past of_bytes quote from at zero [] = tt
string_past of_bytes quote from at (suc k) [] = tt
string_past of_bytes quote from at (suc k) (c ∷ cs) = past_less at _ (string_past of_bytes quote from (suc at) k cs)
string_past of_bytes quote from at zero (c ∷ cs) = past_part at (part of_bytes quote c cs) (string_from of_bytes quote from (suc at) (bytes_after (part of_bytes quote c cs)) cs) (string_past of_bytes quote from (suc at) (bytes_after (part of_bytes quote c cs)) cs)

quoted_ahead : (f : List ℕ → Token) (at from : ℕ) (r : Result (List ℕ × ℕ) Fault) → at ≤ from → Past from r → Ahead at (quoted_token f at r)
quoted_ahead f at from (Ok s) h g = omega arith
quoted_ahead f at from (Err e) h g = tt

word_ahead : (at c : ℕ) (s : List ℕ) (w : Option Word) → Ahead at (word_token at (c ∷ s) w)
word_ahead at c s (Some w) = omega arith
word_ahead at c s None = tt

number_ahead : (at c : ℕ) (s : List ℕ) (n : Option ℕ) → Ahead at (number_token at (c ∷ s) n)
number_ahead at c s (Some n) = omega arith
number_ahead at c s None = tt

type_ahead : (at : ℕ) (t : Option Ty) → Ahead at (type_placed at t)
type_ahead at (Some t) = omega arith
type_ahead at None = tt

mark_ahead : (at c : ℕ) (m : Option Mark) → Ahead at (mark_or_fault at c m)
mark_ahead at c (Some m) = omega arith
mark_ahead at c None = tt

start_ahead : (k : Start) (at c : ℕ) (cs : List ℕ) → Ahead at (token_by k at c cs)
start_ahead of_string at c cs = quoted_ahead string_token at (suc at) (string_from false c at (suc at) 0 cs) (omega arith) (string_past false c at (suc at) 0 cs)
start_ahead of_byte_string at c [] = tt
start_ahead of_byte_string at c (q ∷ cs) = quoted_ahead byte_string at (suc (suc at)) (string_from true q (suc at) (suc (suc at)) 0 cs) (omega arith) (string_past true q (suc at) (suc (suc at)) 0 cs)
start_ahead of_word at c cs = word_ahead at c (prefix_of is_word_byte cs) (word_among words (c ∷ prefix_of is_word_byte cs))
start_ahead of_number at c cs = number_ahead at c (run_after (begins_hex (without_sign (c ∷ cs))) c cs) (number_of (without_sign (run_of c cs)))
start_ahead of_type at c cs = type_ahead at (type_prefix [] cs)
start_ahead of_mark at c cs = mark_ahead at c (mark_of_byte c)

token_ahead : (at c : ℕ) (cs : List ℕ) → Ahead at (token_at at c cs)
unfolding token_at
token_ahead at c cs = start_ahead (start c cs) at c cs

pub begins_ahead : (at : ℕ) (s : List ℕ) (t : Placed) → Begins at s t → at < t.stop
begins_ahead at [] t h = absurd h
begins_ahead at (c ∷ cs) t h = subst (λ (r : Result Placed Fault). Ahead at r) h (token_ahead at c cs)

-- One reading at most

abbrev as_ok : Placed → Result Placed Fault
as_ok x = Ok x

ok_parts : (x y : Placed) → Ok x ≡ as_ok y → x ≡ y
ok_parts x y e = cc

same_token : (at : ℕ) (s : List ℕ) (t u : Placed) → Begins at s t → Begins at s u → t ≡ u
same_token at [] t u h g = absurd h
same_token at (c ∷ cs) t u h g = ok_parts t u (sym h ∙ g)

abbrev as_err : Fault → Result Placed Fault
as_err x = Err x

err_parts : (x y : Fault) → Err x ≡ as_err y → x ≡ y
err_parts x y e = cc

same_end : (at : ℕ) (s : List ℕ) (f g : Option Fault) → EndsWith at s f → EndsWith at s g → f ≡ g
same_end at [] f g h k = h ∙ sym k
same_end at (c ∷ cs) f g h k = h.2 ∙ (ap Some (err_parts h.0 k.0 (sym h.1 ∙ k.1)) ∙ sym k.2)

no_ok_err : (x : Placed) (y : Fault) → as_ok x ≡ Err y → ⊥
no_ok_err x y e = cc

token_no_end : (at : ℕ) (s : List ℕ) (t : Placed) (f : Option Fault) → Begins at s t → EndsWith at s f → ⊥
token_no_end at [] t f h g = h
token_no_end at (c ∷ cs) t f h g = no_ok_err t g.0 (sym h ∙ g.1)

pub one_lexing : (at : ℕ) (s : List ℕ) (ts us : List Placed) (f g : Option Fault) → Lexes at s ts f → Lexes at s us g → (ts ≡ us) × (f ≡ g)
one_lexing at s [] [] f g h k = (refl, same_end _ _ f g h k)
one_lexing at s [] (u ∷ us) f g h k = absurd (token_no_end _ _ u f k.0 h)
one_lexing at s (t ∷ ts) [] f g h k = absurd (token_no_end _ _ t g h.0 k)
one_lexing at s (t ∷ ts) (u ∷ us) f g h k =
    let same : t ≡ u = same_token _ _ t u h.0 k.0 in
    let rest = one_lexing t.stop (drop (t.stop - at) s) ts us f g h.1 (subst (λ (v : Placed). Lexes v.stop (drop (v.stop - at) s) us g) (sym same) k.1) in
    (ap₂ ◌∷◌ same rest.0, rest.1)

-- And one at least

blanks_of_blank : (c : ℕ) (cs : List ℕ) → is_blank c ≡ true → blanks (c ∷ cs) ≡ suc (blanks cs)
unfolding prefix_of
blanks_of_blank c cs e = rw e refl

blanks_of_none : (c : ℕ) (cs : List ℕ) → is_blank c ≡ false → blanks (c ∷ cs) ≡ 0
unfolding prefix_of
blanks_of_none c cs e = rw e refl

drop_later : (c m n : ℕ) (cs : List ℕ) → m ≡ suc n → drop m (c ∷ cs) ≡ drop n cs
drop_later c m n cs e = rw e refl

after_blank : (at c : ℕ) (cs : List ℕ) (ts : List Placed) (f : Option Fault) → is_blank c ≡ true → Lexes (suc at) cs ts f → Lexes at (c ∷ cs) ts f
after_blank at c cs [] f e h =
    let place : at + blanks (c ∷ cs) ≡ suc at + blanks cs = (let b = blanks_of_blank c cs e in omega arith) in
    let rest : drop (blanks (c ∷ cs)) (c ∷ cs) ≡ drop (blanks cs) cs = drop_later c _ _ cs (blanks_of_blank c cs e) in
    subst (λ (n : ℕ). EndsWith n (drop (blanks (c ∷ cs)) (c ∷ cs)) f) (sym place) (subst (λ (s : List ℕ). EndsWith (suc at + blanks cs) s f) (sym rest) h)
after_blank at c cs (t ∷ ts) f e h =
    let place : at + blanks (c ∷ cs) ≡ suc at + blanks cs = (let b = blanks_of_blank c cs e in omega arith) in
    let rest : drop (blanks (c ∷ cs)) (c ∷ cs) ≡ drop (blanks cs) cs = drop_later c _ _ cs (blanks_of_blank c cs e) in
    let ahead : suc at + blanks cs < t.stop = begins_ahead _ _ t h.0 in (
      subst (λ (n : ℕ). Begins n (drop (blanks (c ∷ cs)) (c ∷ cs)) t) (sym place) (subst (λ (s : List ℕ). Begins (suc at + blanks cs) s t) (sym rest) h.0),
      subst (λ (s : List ℕ). Lexes t.stop s ts f) (sym (drop_later c (t.stop - at) (t.stop - suc at) cs (omega arith))) h.1,
    )

-- a token first, or a fault
at_token : (at c : ℕ) (cs : List ℕ) → is_blank c ≡ false → (r : Result Placed Fault) → token_at at c cs ≡ r → (later : Lexed)
    → ((t : Placed) → r ≡ Ok t → Lexes t.stop (drop (t.stop - suc at) cs) later.0 later.1)
    → Lexes at (c ∷ cs) (with_item (item r) later).0 (with_item (item r) later).1
at_token at c cs e (Ok t) is later h =
    let none = blanks_of_none c cs e in
    let prefix : Begins (at + 0) (c ∷ cs) t = subst (λ (n : ℕ). Begins n (c ∷ cs) t) (let z : at ≡ at + 0 = omega arith in z) is in
    let ahead : at < t.stop = begins_ahead at (c ∷ cs) t is in (
      subst (λ (n : ℕ). Begins (at + n) (drop n (c ∷ cs)) t) (sym none) prefix,
      subst (λ (s : List ℕ). Lexes t.stop s later.0 later.1) (sym (drop_later c (t.stop - at) (t.stop - suc at) cs (omega arith))) (h t refl),
    )
at_token at c cs e (Err x) is later h =
    let none = blanks_of_none c cs e in
    let prefix : EndsWith (at + 0) (c ∷ cs) (Some x) = subst (λ (n : ℕ). EndsWith n (c ∷ cs) (Some x)) (let z : at ≡ at + 0 = omega arith in z) (x, is, refl) in
    subst (λ (n : ℕ). EndsWith (at + n) (drop n (c ∷ cs)) (Some x)) (sym none) prefix

abbrev Right : ℕ → List ℕ → Lexed → Type 0
Right at s l = Lexes at s l.0 l.1

lexed_item : (at c : ℕ) (cs : List ℕ) → lexed at 0 (c ∷ cs) ≡ with_item (lexeme_at at c cs) (lexed (suc at) (bytes_taken at (lexeme_at at c cs)) cs)
unfolding lexed
lexed_item at c cs = refl

first_item : (at c : ℕ) (cs : List ℕ) → ((k : ℕ) → Right (suc at + k) (drop k cs) (lexed (suc at) k cs)) → (b : Bool) → is_blank c ≡ b → (r : Result Placed Fault) → token_at at c cs ≡ r
    → Right at (c ∷ cs) (with_item (cond b blank (item r)) (lexed (suc at) (bytes_taken at (cond b blank (item r))) cs))
first_item at c cs ih true e r is =
    after_blank at c cs _ _ e (subst (λ (n : ℕ). Right n cs (lexed (suc at) 0 cs)) (let z : suc at + 0 ≡ suc at = omega arith in z) (ih 0))
first_item at c cs ih false e (Ok t) is =
    let ahead : at < t.stop = begins_ahead at (c ∷ cs) t is in
    at_token at c cs e (Ok t) is (lexed (suc at) (t.stop - suc at) cs)
    (λ u same. let one = ok_parts t u same in subst (λ (v : Placed). Lexes v.stop (drop (v.stop - suc at) cs) (lexed (suc at) (t.stop - suc at) cs).0 (lexed (suc at) (t.stop - suc at) cs).1) one
    (subst (λ (n : ℕ). Right n (drop (t.stop - suc at) cs) (lexed (suc at) (t.stop - suc at) cs)) (let z : suc at + (t.stop - suc at) ≡ t.stop = omega arith in z) (ih (t.stop - suc at))))
first_item at c cs ih false e (Err x) is = at_token at c cs e (Err x) is (lexed (suc at) 0 cs) (λ u same. absurd (no_ok_err u x (sym same)))

pub lexed_right : (at k : ℕ) (s : List ℕ) → Lexes (at + k) (drop k s) (lexed at k s).0 (lexed at k s).1
unfolding lexed prefix_of
lexed_right at zero [] = refl
lexed_right at (suc k) [] = refl
lexed_right at (suc k) (c ∷ cs) = subst (λ (n : ℕ). Right n (drop k cs) (lexed (suc at) k cs)) (let z : suc at + k ≡ at + suc k = omega arith in z) (lexed_right (suc at) k cs)
lexed_right at zero (c ∷ cs) =
    subst (λ (n : ℕ). Right n (c ∷ cs) (lexed at 0 (c ∷ cs))) (let z : at ≡ at + 0 = omega arith in z)
    (first_item at c cs (λ k. lexed_right (suc at) k cs) (is_blank c) refl (token_at at c cs) refl)
