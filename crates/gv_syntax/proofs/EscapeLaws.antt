-- Escapes in quoted texts.
use Rattle.std.proofs.Common.{ℕ, zero, suc, ◌+◌, ◌-◌, ◌≤◌, ◌<◌, ◌≡◌, ◌⊎◌, inl, inr, Bool, true, false, List, [], ◌∷◌, length, drop, take, get_or, refl, sym, ap, ◌∙◌, subst, arith}
use Rattle.std.proofs.lemmas.Bool.{ne_eqb}
use Rattle.gv_model.specs.Characters.{is_quote, is_digit_of, prefix_of}
use Rattle.gv_model.specs.Strings.{StringStep, part, escape, escape_in, at_most, with_prefix, string_from}
use Rattle.gv_model.specs.Strings.StringStep.{denotes}
use Rattle.gv_model.proofs.LowBytes.{digit_is_low}
use Rattle.gv_syntax.specs.LexSteps.{BeginsWithPart, TakesFrom}
use Rattle.gv_syntax.proofs.Lists.{split_first}
use Rattle.gv_syntax.proofs.QuotedLaws.{begins_with_part, with_no_prefix}

quote_is : (q : ℕ) → is_quote q ≡ true → (q ≡ 39) ⊎ (q ≡ 34)
quote_is q e = grind arith

-- a quote is no backslash and no character that isn't ASCII
pub quote_is_other : (q c : ℕ) → is_quote q ≡ true → (c ≡ 92) ⊎ (128 ≤ c) → c ≡ q → ⊥
quote_is_other q c e h is = elim (quote_is q e) [
  | inl a ↦ elim h [ inl b ↦ omega (arith, a, b, is) | inr l ↦ omega (arith, a, l, is) ]
  | inr a ↦ elim h [ inl b ↦ omega (arith, a, b, is) | inr l ↦ omega (arith, a, l, is) ]
]

-- a backslash begins an escape
pub escape_begins : (b : Bool) (q : ℕ) (cs : List ℕ) → is_quote q ≡ true → part b q 92 cs ≡ escape_in b cs
escape_begins b q cs e = rw (ne_eqb 92 q (quote_is_other q 92 e (inl refl))) refl

-- A backslash is dropped before a character that isn't ASCII
high_escape : (c : ℕ) (cs : List ℕ) → 128 ≤ c → escape c cs ≡ denotes (c ∷ []) 2
high_escape c cs h = rw (
  ne_eqb c 117 (λ x. omega arith),
  ne_eqb c 85 (λ x. omega arith),
  ne_eqb c 97 (λ x. omega arith),
  ne_eqb c 98 (λ x. omega arith),
  ne_eqb c 102 (λ x. omega arith),
  ne_eqb c 110 (λ x. omega arith),
  ne_eqb c 114 (λ x. omega arith),
  ne_eqb c 116 (λ x. omega arith),
  ne_eqb c 118 (λ x. omega arith),
  ne_eqb c 10 (λ x. omega arith),
  ne_eqb c 0 (λ x. omega arith),
) refl

high_plain : (b : Bool) (q c : ℕ) (cs : List ℕ) → is_quote q ≡ true → 128 ≤ c → part b q c cs ≡ denotes (c ∷ []) 1
high_plain b q c cs e h = rw (ne_eqb c q (quote_is_other q c e (inr h)), ne_eqb c 0 (λ x. omega arith), ne_eqb c 92 (λ x. omega arith)) refl

pub dropped_backslash : (q c : ℕ) (cs : List ℕ) → is_quote q ≡ true → 128 ≤ c → BeginsWithPart false q (92 ∷ c ∷ cs) (denotes [] 1)
dropped_backslash q c cs e h from at =
    let whole = begins_with_part false q 92 (c ∷ cs) (denotes (c ∷ []) 2) (escape_begins false q (c ∷ cs) e ∙ high_escape c cs h) (omega arith, omega arith) from at in
    let later = begins_with_part false q c cs (denotes (c ∷ []) 1) (high_plain false q c cs e h) (omega arith, omega arith) from (at + 1) in
    let place : at + 2 ≡ at + 1 + 1 = omega arith in
    whole ∙ (ap (λ n. with_prefix (c ∷ []) (string_from false q from n 0 cs)) place ∙ (sym later ∙ sym (with_no_prefix _)))

-- ---- digits

pub at_most_is_take : (n : ℕ) (s : List ℕ) → at_most n s ≡ take n s
unfolding at_most
at_most_is_take zero s = refl
at_most_is_take (suc n) [] = refl
at_most_is_take (suc n) (c ∷ cs) = ap (λ l. c ∷ l) (at_most_is_take n cs)

pub digits_fit : (f : ℕ → Bool) (n : ℕ) (s : List ℕ) → (length (prefix_of f (at_most n s)) ≤ n) × (length (prefix_of f (at_most n s)) ≤ length s)
unfolding prefix_of at_most
digits_fit f zero s = (omega arith, omega arith)
digits_fit f (suc n) [] = (omega arith, omega arith)
digits_fit f (suc n) (c ∷ cs) = step (f c) refl (digits_fit f n cs)
  where
    step : (b : Bool) → f c ≡ b → (length (prefix_of f (at_most n cs)) ≤ n) × (length (prefix_of f (at_most n cs)) ≤ length cs)
        → (length (prefix_of f (at_most (suc n) (c ∷ cs))) ≤ suc n) × (length (prefix_of f (at_most (suc n) (c ∷ cs))) ≤ suc (length cs))
    step true e later = rw e (omega (arith, later.0), omega (arith, later.1))
    step false e later = rw e (omega arith, omega arith)

-- the bytes of such a prefix are of the class
pub digit_there : (f : ℕ → Bool) (n : ℕ) (s : List ℕ) (i : ℕ) → i < length (prefix_of f (at_most n s)) → f (get_or s i 0) ≡ true
unfolding prefix_of at_most
digit_there f zero s i l = absurd (omega (arith, l))
digit_there f (suc n) [] i l = absurd (omega (arith, l))
digit_there f (suc n) (c ∷ cs) i l = step (f c) refl i l (digit_there f n cs)
  where
    step : (b : Bool) → f c ≡ b → (i : ℕ) → i < length (prefix_of f (at_most (suc n) (c ∷ cs))) → ((j : ℕ) → j < length (prefix_of f (at_most n cs)) → f (get_or cs j 0) ≡ true) → f (get_or (c ∷ cs) i 0) ≡ true
    step true e zero l later = e
    step true e (suc j) l later = let m = rw e at l in later j (omega (arith, m))
    step false e i l later = let m = rw e at l in absurd (omega (arith, m))

-- the last byte of an escape by a number
pub last_digit_low : (wanted x : ℕ) (s : List ℕ) (n : ℕ) → 0 < n → n ≡ length (prefix_of (is_digit_of 16) (at_most wanted s)) → get_or (92 ∷ x ∷ s) (2 + n - 1) 0 < 128
last_digit_low wanted x s zero l e = absurd (omega (arith, l))
last_digit_low wanted x s (suc m) l e =
    let place : 2 + suc m - 1 ≡ suc (suc m) = omega arith in
    subst (λ k. get_or (92 ∷ x ∷ s) k 0 < 128) (sym place) (digit_is_low 16 (get_or s m 0) (omega arith) (digit_there (is_digit_of 16) wanted s m (omega (arith, e))))

-- ---- parts at the start of a text

pub part_at : (b : Bool) (q : ℕ) (s : List ℕ) (p : StringStep) → 1 ≤ length s → p ≡ part b q (get_or s 0 0) (drop 1 s) → TakesFrom s p → BeginsWithPart b q s p
part_at b q [] p l e lies = absurd (omega (arith, l))
part_at b q (c ∷ cs) p l e lies = begins_with_part b q c cs p (sym e) lies

pub begins_with_escape : (b : Bool) (q : ℕ) (s : List ℕ) (p : StringStep) → is_quote q ≡ true → 1 ≤ length s → get_or s 0 0 ≡ 92 → p ≡ escape_in b (take (length s - 1) (drop 1 s))
    → TakesFrom (92 ∷ take (length s - 1) (drop 1 s)) p → BeginsWithPart b q s p
begins_with_escape b q s p quote l e is lies =
    let rest = take (length s - 1) (drop 1 s) in
    let whole : s ≡ 92 ∷ rest = split_first s l ∙ ap (λ c. c ∷ rest) e in
    subst (λ t. BeginsWithPart b q t p) (sym whole) (begins_with_part b q 92 rest p (escape_begins b q rest quote ∙ sym is) lies)

pub dropped_at : (q : ℕ) (s : List ℕ) → is_quote q ≡ true → get_or s 0 0 ≡ 92 → 128 ≤ get_or s 1 0 → BeginsWithPart false q s (denotes [] 1)
dropped_at q [] quote e h = absurd (omega (arith, h))
dropped_at q (c ∷ []) quote e h = absurd (omega (arith, h))
dropped_at q (c ∷ d ∷ ds) quote e h = subst (λ x. BeginsWithPart false q (x ∷ d ∷ ds) (denotes [] 1)) (sym e) (dropped_backslash q d ds quote h)
