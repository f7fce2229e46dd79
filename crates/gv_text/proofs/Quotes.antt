-- Texts in quotes, one character or byte after the other.
use Rattle.std.proofs.Common.{◌≡◌, ◌≢◌, ◌<◌, ℕ, List, [], ◌∷◌, ◌++◌, Bool, true, false, ◌==◌, ◌||◌, length, Option, Some, None, refl, sym, ap, ◌∙◌, arith, append_assoc, ne_eqb, chars, cond}
use Rattle.std.specs.Prelude.{flat_map, option_map, encode_utf8, IsUtf8}
use Rattle.std.specs.List.{list_any}
use Rattle.std.specs.Result.{is_ok, OnOk}
use Rattle.std.specs.declared.result.Result.{Result}
use Rattle.std.specs.declared.result.Result.TheVariants.{Ok, Err}
use Rattle.std.proofs.lemmas.Str.{chars_past_char, chars-nil}
use Rattle.std.proofs.lemmas.List.{nil_from_length}
use Rattle.std.proofs.lemmas.Bool.{true≢false, or_parts}
use Rattle.gv_model.specs.BasicValue.{text_in}
use Rattle.gv_model.specs.Quoted.{quote_for, between}

-- ---- a byte string's body and its last byte

abbrev pub is_zero : ℕ → Bool
is_zero c = c == 0

pub body_of_text : (body : List ℕ) → list_any is_zero body ≡ false → text_in (body ++ 0 ∷ []) ≡ Some body
unfolding text_in
body_of_text [] h = refl
body_of_text (c ∷ []) h = rw (or_parts (c == 0) false h).0 refl
body_of_text (c ∷ d ∷ body) h =
    let parts = or_parts (c == 0) (list_any is_zero (d ∷ body)) h in
    rw parts.0 (ap (option_map (λ s. c ∷ s)) (body_of_text (d ∷ body) parts.1))

if_none : (z : Bool) (o : Option (List ℕ)) → o ≡ None → cond z None o ≡ None
if_none true o e = refl
if_none false o e = e

-- no text ends in another byte than zero
pub no_zero_end : (body : List ℕ) (last : ℕ) → last ≢ 0 → text_in (body ++ last ∷ []) ≡ None
unfolding text_in
no_zero_end [] last h = let e : (last == 0) ≡ false = ne_eqb last 0 h in rw e refl
no_zero_end (c ∷ []) last h = let e : (last == 0) ≡ false = ne_eqb last 0 h in if_none (c == 0) (option_map (λ s. c ∷ s) (text_in (last ∷ []))) (rw e refl)
no_zero_end (c ∷ d ∷ body) last h = if_none (c == 0) (option_map (λ s. c ∷ s) (text_in (d ∷ (body ++ last ∷ [])))) (ap (option_map (λ s. c ∷ s)) (no_zero_end (d ∷ body) last h))

zero_here_or_later : (z later : Bool) (o : Option (List ℕ)) → (z || later) ≡ true → (later ≡ true → o ≡ None) → cond z None o ≡ None
zero_here_or_later true later o e h = refl
zero_here_or_later false later o e h = h e

-- nor has one a zero byte inside
pub zero_inside : (body : List ℕ) (last : ℕ) → list_any is_zero body ≡ true → text_in (body ++ last ∷ []) ≡ None
unfolding text_in
zero_inside [] last h = absurd (true≢false (sym h))
zero_inside (c ∷ []) last h = zero_here_or_later (c == 0) false (option_map (λ s. c ∷ s) (text_in (last ∷ []))) h (λ e. absurd (true≢false (sym e)))
zero_inside (c ∷ d ∷ body) last h = zero_here_or_later (c == 0) (list_any is_zero (d ∷ body)) (option_map (λ s. c ∷ s) (text_in (d ∷ (body ++ last ∷ [])))) h (λ e. ap (option_map (λ s. c ∷ s)) (zero_inside (d ∷ body) last e))

pub text_in-nil : (b : List ℕ) → length b ≡ 0 → text_in b ≡ None
unfolding text_in
text_in-nil [] h = refl
text_in-nil (c ∷ b) h = absurd (omega arith)

-- ---- characters

-- the characters of a text are its first and those of the rest
pub chars_step : (f : ℕ → List ℕ) (text rest : List ℕ) (c : ℕ) → IsUtf8 text → text ≡ encode_utf8 c ++ rest → flat_map f (chars text) ≡ f c ++ flat_map f (chars rest)
chars_step f text rest c utf8 parts = ap (flat_map f) (chars_past_char text rest c utf8 parts)

pub chars_end : (f : ℕ → List ℕ) (text : List ℕ) → length text ≡ 0 → flat_map f (chars text) ≡ []
chars_end f text none = ap (λ (t : List ℕ). flat_map f (chars t)) (nil_from_length text none) ∙ ap (flat_map f) chars-nil

-- ---- the whole

quote_cases : (b : Bool) → cond b 34 39 < 128
quote_cases true = omega arith
quote_cases false = omega arith

pub quote_low : (q : ℕ) (s : List ℕ) → q ≡ quote_for s → q < 128
quote_low q s e = let low = quote_cases (list_any (λ c. c == 39) s) in omega (arith, low, e)

pub between_whole : (old start loop new inner : List ℕ) (q : ℕ) → start ≡ old ++ q ∷ [] → loop ≡ start ++ inner → new ≡ loop ++ q ∷ [] → new ≡ old ++ between q inner q
between_whole old start loop new inner q opened written closed =
    closed ∙ (ap (λ (l : List ℕ). l ++ q ∷ []) (written ∙ ap (λ (l : List ℕ). l ++ inner) opened)
    ∙ (append_assoc (old ++ q ∷ []) inner (q ∷ []) ∙ append_assoc old (q ∷ []) (inner ++ q ∷ [])))

pub bytes_whole : (old first start loop new inner : List ℕ) (q : ℕ) → first ≡ old ++ 98 ∷ [] → start ≡ first ++ q ∷ [] → loop ≡ start ++ inner → new ≡ loop ++ q ∷ [] → new ≡ old ++ (98 ∷ between q inner q)
bytes_whole old first start loop new inner q marked opened written closed =
    between_whole first start loop new inner q opened written closed
    ∙ (ap (λ (l : List ℕ). l ++ between q inner q) marked ∙ append_assoc old (98 ∷ []) (between q inner q))

-- what a push that succeeds writes, by another name
pub written_as : {T E : Type 0} (r : Result T E) (old new a b : List ℕ) → new ≡ cond (is_ok r) (old ++ a) old → a ≡ b → OnOk r (new ≡ old ++ b)
written_as (Ok x) old new a b e same = e ∙ ap (λ (l : List ℕ). old ++ l) same
written_as (Err x) old new a b e same = tt
