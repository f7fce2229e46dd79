-- Texts with nothing to drop at their ends, and the first byte of a kind.
use Rattle.std.specs.Prelude.{◌≡◌, ℕ, ◌+◌, ◌-◌, Bool, true, false, cond, ◌==◌, List, [], ◌∷◌, ◌++◌, length, take, drop, refl}
use Rattle.std.specs.List.{list_any, prefix_len, suffix_len, position_or_len, before_first, after_first}
use Rattle.std.proofs.Common.{sym, ap, ◌∙◌, arith, suc, reverse, append_assoc}
use Rattle.std.proofs.lemmas.Bool.{true≢false, or_parts, eqb-true}
use Rattle.std.proofs.lemmas.List.{reverse-append, take_all, take_at, length-take, length-drop}
use Rattle.std.proofs.lemmas.List.Sums.{prefix_len-le-length, suffix_len-le-length}
use Rattle.dconf_model.specs.Lines.{without_start, without_end}

pub start_stops : (f : ℕ → Bool) (xs : List ℕ) (c : ℕ) (ys : List ℕ) → prefix_len f xs ≡ 0 → f c ≡ false → prefix_len f (xs ++ c ∷ ys) ≡ 0
start_stops f [] c ys h e = rw e refl
start_stops f (x ∷ xs) c ys h e = go (f x) refl h
  where
    go : (b : Bool) → f x ≡ b → cond b (1 + prefix_len f xs) 0 ≡ 0 → cond (f x) (1 + prefix_len f (xs ++ c ∷ ys)) 0 ≡ 0
    go true same more = let false_now : ⊥ = omega (arith, more) in absurd false_now
    go false same more = rw same refl

turned : (xs : List ℕ) (c : ℕ) (ys : List ℕ) → reverse (xs ++ c ∷ ys) ≡ reverse ys ++ c ∷ reverse xs
turned xs c ys = reverse-append xs (c ∷ ys) ∙ ap (λ l. l ++ reverse xs) (reverse-append (c ∷ []) ys) ∙ append_assoc (reverse ys) (c ∷ []) (reverse xs)

pub end_stops : (f : ℕ → Bool) (xs : List ℕ) (c : ℕ) (ys : List ℕ) → suffix_len f ys ≡ 0 → f c ≡ false → suffix_len f (xs ++ c ∷ ys) ≡ 0
end_stops f xs c ys h e = ap (prefix_len f) (turned xs c ys) ∙ start_stops f (reverse ys) c (reverse xs) h e

pub end_whole : (f : ℕ → Bool) (s : List ℕ) → suffix_len f s ≡ 0 → without_end f s ≡ s
end_whole f s h = take_all (length s - suffix_len f s) s (omega (arith, h))

pub start_whole : (f : ℕ → Bool) (s : List ℕ) → prefix_len f s ≡ 0 → without_start f s ≡ s
start_whole f s h = ap (λ n. drop n s) h

pub both_whole : (f g : ℕ → Bool) (s : List ℕ) → prefix_len f s ≡ 0 → suffix_len g s ≡ 0 → without_start f (without_end g s) ≡ s
both_whole f g s h k = ap (without_start f) (end_whole g s k) ∙ start_whole f s h

pub end_none : (f g : ℕ → Bool) (s : List ℕ) → without_start f (without_end g s) ≡ s → suffix_len g s ≡ 0
end_none f g s e =
    let whole = ap length e in
    let outer = length-drop (prefix_len f (without_end g s)) (without_end g s) in
    let inner = length-take (length s - suffix_len g s) s in
    omega (arith, whole, outer, inner, suffix_len-le-length g s)

pub start_none : (f g : ℕ → Bool) (s : List ℕ) → without_start f (without_end g s) ≡ s → prefix_len f s ≡ 0
start_none f g s e =
    let same = ap (without_start f) (sym (end_whole g s (end_none f g s e))) ∙ e in
    let whole = ap length same in
    let outer = length-drop (prefix_len f s) s in
    omega (arith, whole, outer, prefix_len-le-length f s)

-- ---- the first byte that passes

pub first_at : (p : ℕ → Bool) (xs : List ℕ) (c : ℕ) (ys : List ℕ) → list_any p xs ≡ false → p c ≡ true → position_or_len p (xs ++ c ∷ ys) ≡ length xs
first_at p [] c ys h e = rw e refl
first_at p (x ∷ xs) c ys h e =
    let parts = or_parts (p x) (list_any p xs) h in
    let later = first_at p xs c ys parts.1 e in
    rw (parts.0, later) (let same : 1 + length xs ≡ suc (length xs) = omega arith in same)

pub past : (xs : List ℕ) (c : ℕ) (ys : List ℕ) → drop (length xs + 1) (xs ++ c ∷ ys) ≡ ys
past [] c ys = refl
past (x ∷ xs) c ys = let e : suc (length xs) + 1 ≡ suc (length xs + 1) = omega arith in rw e (past xs c ys)

pub before_it : (p : ℕ → Bool) (xs : List ℕ) (c : ℕ) (ys : List ℕ) → list_any p xs ≡ false → p c ≡ true → before_first p (xs ++ c ∷ ys) ≡ xs
before_it p xs c ys h e = ap (λ n. take n (xs ++ c ∷ ys)) (first_at p xs c ys h e) ∙ take_at xs (c ∷ ys) (length xs) refl

pub after_it : (p : ℕ → Bool) (xs : List ℕ) (c : ℕ) (ys : List ℕ) → list_any p xs ≡ false → p c ≡ true → after_first p (xs ++ c ∷ ys) ≡ ys
after_it p xs c ys h e = ap (λ n. drop (n + 1) (xs ++ c ∷ ys)) (first_at p xs c ys h e) ∙ past xs c ys

-- ---- bytes that a test leaves out

pub other_byte : (q : ℕ → Bool) (d c : ℕ) → q d ≡ true → q c ≡ false → (c == d) ≡ false
other_byte q d c hit miss = go (c == d) refl
  where
    go : (b : Bool) → (c == d) ≡ b → b ≡ false
    go true e = absurd (true≢false (sym hit ∙ ap q (sym (eqb-true c d e)) ∙ miss))
    go false e = refl

pub no_such_byte : (q : ℕ → Bool) (d : ℕ) (s : List ℕ) → q d ≡ true → list_any q s ≡ false → list_any (λ c. c == d) s ≡ false
no_such_byte q d [] hit h = refl
no_such_byte q d (x ∷ s) hit h =
    let parts = or_parts (q x) (list_any q s) h in
    rw (other_byte q d x hit parts.0, no_such_byte q d s hit parts.1) refl
