-- Lists of bytes: what is left after a prefix.
use Rattle.std.proofs.Common.{ℕ, suc, ◌+◌, ◌-◌, ◌≤◌, ◌<◌, ◌≡◌, Bool, true, false, List, [], ◌∷◌, length, min, drop, take, get_or, refl, sym, ap, ◌∙◌, arith}
use Rattle.std.proofs.lemmas.List.{get_or-drop, take_rest, drop-drop, length-drop}
use Rattle.gv_model.specs.Characters.{prefix_of, after_prefix}

pub length_of_drop : (n : ℕ) (s : List ℕ) → length (drop n s) + min n (length s) ≡ length s
length_of_drop n s = omega (arith, length-drop n s)

-- what a text is whose rest from a place on begins so
pub prefix_byte : (s : List ℕ) (at c : ℕ) (cs : List ℕ) → drop at s ≡ c ∷ cs → get_or s at 0 ≡ c
prefix_byte s at c cs e =
    let z : at ≡ at + 0 = omega arith in
    ap (λ k. get_or s k 0) z ∙ (sym (get_or-drop at s 0 0) ∙ ap (λ l. get_or l 0 0) e)

pub rest_after : (s : List ℕ) (at c : ℕ) (cs : List ℕ) → drop at s ≡ c ∷ cs → drop (suc at) s ≡ cs
rest_after s at c cs e =
    let z : suc at ≡ at + 1 = omega arith in
    ap (λ k. drop k s) z ∙ (sym (drop-drop 1 at s) ∙ ap (λ l. drop 1 l) e)

-- the first byte and the slice after it
pub split_first : (s : List ℕ) → 1 ≤ length s → s ≡ get_or s 0 0 ∷ take (length s - 1) (drop 1 s)
split_first [] l = absurd (omega (arith, l))
split_first (c ∷ cs) l = ap (λ x. c ∷ x) (sym (take_rest (c ∷ cs) 1))

-- ---- the longest prefix of a class

pub prefix_stops : (f : ℕ → Bool) (s : List ℕ) → length (prefix_of f s) < length s → f (get_or s (length (prefix_of f s)) 0) ≡ false
unfolding prefix_of
prefix_stops f [] l = absurd (omega (arith, l))
prefix_stops f (c ∷ cs) l = step (f c) refl (prefix_stops f cs) l
  where
    step : (b : Bool) → f c ≡ b → (length (prefix_of f cs) < length cs → f (get_or cs (length (prefix_of f cs)) 0) ≡ false)
        → length (prefix_of f (c ∷ cs)) < suc (length cs) → f (get_or (c ∷ cs) (length (prefix_of f (c ∷ cs))) 0) ≡ false
    step true e later = rw e (λ less. later (omega (arith, less)))
    step false e later = rw e (λ less. e)

-- the prefix itself is so many bytes of the text
pub prefix_taken : (f : ℕ → Bool) (s : List ℕ) → take (length (prefix_of f s)) s ≡ prefix_of f s
unfolding prefix_of
prefix_taken f [] = refl
prefix_taken f (c ∷ cs) = step (f c) refl (prefix_taken f cs)
  where
    step : (b : Bool) → f c ≡ b → take (length (prefix_of f cs)) cs ≡ prefix_of f cs → take (length (prefix_of f (c ∷ cs))) (c ∷ cs) ≡ prefix_of f (c ∷ cs)
    step true e later = rw e (ap (λ l. c ∷ l) later)
    step false e later = rw e refl

-- all bytes are so exactly where nothing is after the prefix
pub after_taken : (f : ℕ → Bool) (s : List ℕ) (n : ℕ) → n ≡ length (prefix_of f s) → drop n s ≡ after_prefix f s
after_taken f s n e = ap (λ k. drop k s) e

-- the slice of a prefix that begins at a place
pub prefix_slice : (f : ℕ → Bool) (s : List ℕ) (at n : ℕ) → n ≡ length (prefix_of f (drop at s)) → take (at + n - at) (drop at s) ≡ prefix_of f (drop at s)
prefix_slice f s at n e =
    let z : at + n - at ≡ length (prefix_of f (drop at s)) = omega (arith, e) in
    ap (λ k. take k (drop at s)) z ∙ prefix_taken f (drop at s)
