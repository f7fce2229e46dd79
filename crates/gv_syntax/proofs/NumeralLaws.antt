-- Numbers up to a limit, and runs byte by byte.
use Rattle.std.proofs.Common.{ℕ, zero, suc, ◌+◌, ◌-◌, ◌*◌, ◌^◌, ◌≤◌, ◌<◌, ◌≡◌, ◌⊎◌, inl, inr, min, Bool, true, false, List, [], ◌∷◌, length, drop, take, get_or, refl, sym, ap, ap₂, ◌∙◌, arith, drop-cons}
use Rattle.std.specs.Prelude.{Option, Some, None, option_map, is_some, nat_eq, not, ◌&&◌, if◌then◌else◌}
use Rattle.std.proofs.lemmas.Bool.{ne_eqb, false≢true, true≢false}
use Rattle.std.proofs.Math.Nat.{le-mul_of_pos_right}
use Rattle.std.proofs.Math.ListN.{drop_of_length-le}
use Rattle.std.proofs.lemmas.Option.{none-some}
use Rattle.gv_model.specs.Characters.{digit_value, prefix_of, after_prefix, is_digit_of, has_no_bytes}
use Rattle.gv_model.specs.Numerals.{number_of_base, number_after, run_after, run_of, begins_hex, without_sign}
use Rattle.gv_syntax.specs.NumberChars.{goes_on}

-- numbers that are one, or both of 2^64 or more
abbrev pub Alike : ℕ → ℕ → Type 0
Alike n m = (n ≡ m) ⊎ ((2 ^ 64 ≤ n) × (2 ^ 64 ≤ m))

pub alike_least : (n m : ℕ) → Alike n m → min n (2 ^ 64) ≡ min m (2 ^ 64)
alike_least n m (inl e) = ap (λ k. min k (2 ^ 64)) e
alike_least n m (inr h) = omega (arith, h.0, h.1)

grows : (n base d : ℕ) → 0 < base → n ≤ n * base + d
grows n base d h = omega (arith, le-mul_of_pos_right n h)

alike_digit : (n m base d : ℕ) → 0 < base → Alike n m → Alike (n * base + d) (m * base + d)
alike_digit n m base d h (inl e) = inl (ap (λ k. k * base + d) e)
alike_digit n m base d h (inr g) =
    let left = grows n base d h in
    let right = grows m base d h in
    inr (omega (arith, left, g.0), omega (arith, right, g.1))

alike_after : (base : ℕ) (s : List ℕ) (n m : ℕ) → 0 < base → Alike n m → Alike (number_after base n s) (number_after base m s)
unfolding number_after
alike_after base [] n m h a = a
alike_after base (c ∷ cs) n m h a = alike_after base cs (n * base + digit_value c) (m * base + digit_value c) h (alike_digit n m base (digit_value c) h a)

alike_capped : (n : ℕ) → Alike n (min n (2 ^ 64))
alike_capped n = by_size (n - 2 ^ 64) refl
  where
    by_size : (d : ℕ) → n - 2 ^ 64 ≡ d → Alike n (min n (2 ^ 64))
    by_size zero e = inl (omega (arith, e))
    by_size (suc d) e = inr (omega (arith, e), omega (arith, e))

-- one digit more
pub number_goes_on : (base n : ℕ) (s : List ℕ) (i : ℕ) → 0 < base → i < length s
    → min (number_after base n (drop i s)) (2 ^ 64) ≡ min (number_after base (min (n * base + digit_value (get_or s i 0)) (2 ^ 64)) (drop (suc i) s)) (2 ^ 64)
unfolding number_after
number_goes_on base n s i h l =
    let next = n * base + digit_value (get_or s i 0) in
    ap (λ r. min (number_after base n r) (2 ^ 64)) (drop-cons s i 0 l)
    ∙ alike_least _ _ (alike_after base (drop (suc i) s) next (min next (2 ^ 64)) h (alike_capped next))

pub number_ends : (base n : ℕ) (s : List ℕ) (i : ℕ) → length s ≤ i → n ≤ 2 ^ 64 → min (number_after base n (drop i s)) (2 ^ 64) ≡ n
unfolding number_after
number_ends base n s i l h = ap (λ r. min (number_after base n r) (2 ^ 64)) (drop_of_length-le s l) ∙ (let z : min n (2 ^ 64) ≡ n = omega (arith, h) in z)

pub next_is_small : (n base d : ℕ) → n ≤ 2 ^ 64 → base < 256 → d < 256 → (n * base < 2 ^ 128) × (n * base + d < 2 ^ 128)
next_is_small n base d h b k =
    let least : n * base ≤ 2 ^ 64 * 256 = grind arith in
    (omega (arith, least), omega (arith, least, k))

-- ---- runs

pub run_yes : (hex : Bool) (c : ℕ) (s : List ℕ) (i : ℕ) → i < length s → goes_on hex c (get_or s i 0) ≡ true → length (run_after hex c (drop i s)) ≡ suc (length (run_after hex (get_or s i 0) (drop (suc i) s)))
unfolding run_after
run_yes hex c s i h e = ap (λ r. length (run_after hex c r)) (drop-cons s i 0 h) ∙ rw e refl

pub run_no : (hex : Bool) (c : ℕ) (s : List ℕ) (i : ℕ) → i < length s → goes_on hex c (get_or s i 0) ≡ false → length (run_after hex c (drop i s)) ≡ 0
unfolding run_after
run_no hex c s i h e = ap (λ r. length (run_after hex c r)) (drop-cons s i 0 h) ∙ rw e refl

pub run_end : (hex : Bool) (c : ℕ) (s : List ℕ) (i : ℕ) → length s ≤ i → length (run_after hex c (drop i s)) ≡ 0
unfolding run_after
run_end hex c s i h = ap (λ r. length (run_after hex c r)) (drop_of_length-le s h)

-- a run from its second byte on
pub run_from_second : (hex : Bool) (s cs : List ℕ) (c : ℕ) → s ≡ c ∷ cs → 1 + length (run_after hex (get_or s 0 0) (drop 1 s)) ≡ length (c ∷ run_after hex c cs)
run_from_second hex s cs c e = rw e (omega arith)

pub run_step : (hex : Bool) (s : List ℕ) (i total : ℕ) → 1 ≤ i → i < length s → goes_on hex (get_or s (i - 1) 0) (get_or s i 0) ≡ true
    → i + length (run_after hex (get_or s (i - 1) 0) (drop i s)) ≡ total → i + 1 + length (run_after hex (get_or s (i + 1 - 1) 0) (drop (i + 1) s)) ≡ total
run_step hex s i total one l e h =
    let same : i + 1 - 1 ≡ i = omega arith in
    let next : i + 1 ≡ suc i = omega arith in
    let step = run_yes hex (get_or s (i - 1) 0) s i l e in
    ap (λ k. i + 1 + length (run_after hex (get_or s k 0) (drop (i + 1) s))) same
    ∙ (ap (λ k. i + 1 + length (run_after hex (get_or s i 0) (drop k s))) next ∙ omega (arith, step, h))

pub run_stop : (hex : Bool) (s : List ℕ) (i total : ℕ) → i < length s → goes_on hex (get_or s (i - 1) 0) (get_or s i 0) ≡ false
    → i + length (run_after hex (get_or s (i - 1) 0) (drop i s)) ≡ total → i ≡ total
run_stop hex s i total l e h = let none = run_no hex (get_or s (i - 1) 0) s i l e in omega (arith, none, h)

pub run_over : (hex : Bool) (s : List ℕ) (i total : ℕ) → length s ≤ i → i + length (run_after hex (get_or s (i - 1) 0) (drop i s)) ≡ total → i ≡ total
run_over hex s i total l h = let none = run_end hex (get_or s (i - 1) 0) s i l in omega (arith, none, h)

pub run_taken : (hex : Bool) (c : ℕ) (s : List ℕ) → take (length (run_after hex c s)) s ≡ run_after hex c s
unfolding run_after
run_taken hex c [] = refl
run_taken hex c (d ∷ ds) = step (goes_on hex c d) refl (run_taken hex d ds)
  where
    step : (b : Bool) → goes_on hex c d ≡ b → take (length (run_after hex d ds)) ds ≡ run_after hex d ds
        → take (length (run_after hex c (d ∷ ds))) (d ∷ ds) ≡ run_after hex c (d ∷ ds)
    step true e later = rw e (ap (λ l. d ∷ l) later)
    step false e later = rw e refl

-- the number that is at the start of a text
pub run_slice : (s : List ℕ) (n c : ℕ) (cs : List ℕ) → s ≡ c ∷ cs → n ≡ length (run_of c cs) → take n s ≡ run_of c cs
run_slice s n c cs e is = ap₂ take is e ∙ ap (λ l. c ∷ l) (run_taken (begins_hex (without_sign (c ∷ cs))) c cs)

pub some_of : {X : Type 0} (f : X → List ℕ) (o : Option X) (b : Bool) (x : List ℕ) → option_map f o ≡ (if b then Some x else None) → is_some o ≡ b
some_of f None true x e = absurd (none-some x e)
some_of f None false x e = refl
some_of f (Some y) true x e = refl
some_of f (Some y) false x e = absurd (none-some (f y) (sym e))

-- ---- no number

pub none_of_empty : (base : ℕ) (s : List ℕ) → nat_eq (length s) 0 ≡ true → None ≡ number_of_base base s
none_of_empty base [] e = refl
none_of_empty base (c ∷ cs) e = absurd (false≢true (sym (ne_eqb (suc (length cs)) 0 (λ x. omega arith)) ∙ e))

some_after : (s : List ℕ) (n : ℕ) → n < length s → has_no_bytes (drop n s) ≡ false
some_after s n l = ap has_no_bytes (drop-cons s n 0 l)

none_if : (a b : Bool) (n : ℕ) → b ≡ false → None ≡ (if a && b then Some n else None)
none_if true false n e = refl
none_if false false n e = refl
none_if a true n e = absurd (true≢false e)

pub none_of_rest : (base : ℕ) (s : List ℕ) (n : ℕ) → n ≡ length (prefix_of (is_digit_of base) s) → n < length s → None ≡ number_of_base base s
none_of_rest base s n e l = none_if (not (has_no_bytes s)) (has_no_bytes (after_prefix (is_digit_of base) s)) (min (number_after base 0 s) (2 ^ 64)) (some_after s (length (prefix_of (is_digit_of base) s)) (omega (arith, e, l)))
