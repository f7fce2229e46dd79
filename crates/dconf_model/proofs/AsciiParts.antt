-- Texts that are cut beside ASCII bytes stay texts.
use Rattle.std.specs.Prelude.{◌≡◌, ◌<◌, ℕ, zero, suc, ◌+◌, ◌-◌, Bool, true, false, cond, List, [], ◌∷◌, ◌++◌, length, take, drop, refl}
use Rattle.std.specs.List.{prefix_len, suffix_len}
use Rattle.std.specs.Str.{IsUtf8}
use Rattle.std.proofs.Common.{sym, ap, subst, ◌∙◌, arith, reverse, get_or}
use Rattle.std.proofs.lemmas.List.{get_or_at, take_at, take_all, length-append, get_or-reverse}
use Rattle.std.proofs.lemmas.List.Sums.{suffix_len-le-length}
use Rattle.std.proofs.lemmas.Str.{IsUtf8-take, IsUtf8-drop, IsCharBoundary-before_ascii, IsCharBoundary-after_ascii}
use Rattle.dconf_model.specs.Lines.{without_start, without_end}
use Rattle.dconf_model.proofs.Trimmed.{past}

pub utf8_beside : (xs : List ℕ) (c : ℕ) (ys : List ℕ) → c < 128 → IsUtf8 (xs ++ c ∷ ys) → IsUtf8 xs × IsUtf8 ys
utf8_beside xs c ys l u =
    let all : List ℕ = xs ++ c ∷ ys in
    let long = length-append xs (c ∷ ys) in
    let here = get_or_at xs c ys 0 (length xs) refl in
    let within : length xs < length all = omega (arith, long) in
    let small : get_or all (length xs) 0 < 128 = omega (arith, here, l) in (
      subst IsUtf8 (take_at xs (c ∷ ys) (length xs) refl) (IsUtf8-take all (length xs) u (IsCharBoundary-before_ascii all (length xs) within small)),
      subst IsUtf8 (past xs c ys) (IsUtf8-drop all (length xs + 1) u (IsCharBoundary-after_ascii all (length xs) u within small)),
    )

pub after_ascii : (c : ℕ) (ys : List ℕ) → c < 128 → IsUtf8 (c ∷ ys) → IsUtf8 ys
after_ascii c ys l u = (utf8_beside [] c ys l u).1

-- what is past a byte of ASCII
pub drop_ascii : (xs : List ℕ) (i : ℕ) → i < length xs → get_or xs i 0 < 128 → IsUtf8 xs → IsUtf8 (drop (suc i) xs)
drop_ascii xs i within small u =
    let next : i + 1 ≡ suc i = omega arith in
    subst (λ n. IsUtf8 (drop n xs)) next (IsUtf8-drop xs (i + 1) u (IsCharBoundary-after_ascii xs i u within small))

-- ---- without blanks

abbrev pub IsAsciiTest : (ℕ → Bool) → Type 0
IsAsciiTest f = (c : ℕ) → f c ≡ true → c < 128

pub utf8_start : (f : ℕ → Bool) → IsAsciiTest f → (s : List ℕ) → IsUtf8 s → IsUtf8 (without_start f s)
utf8_start f ascii [] u = u
utf8_start f ascii (c ∷ s) u = go (utf8_start f ascii s) (f c) refl
  where
    go : (IsUtf8 s → IsUtf8 (without_start f s)) → (b : Bool) → f c ≡ b → IsUtf8 (drop (cond b (1 + prefix_len f s) 0) (c ∷ s))
    go later true e =
        let one : 1 + prefix_len f s ≡ suc (prefix_len f s) = omega arith in
        subst (λ n. IsUtf8 (drop n (c ∷ s))) (sym one) (later (after_ascii c s (ascii c e) u))
    go later false e = u

-- the last of a prefix whose bytes pass
passes : (f : ℕ → Bool) (s : List ℕ) (k : ℕ) → k < prefix_len f s → f (get_or s k 0) ≡ true
passes f [] k h = absurd (omega (arith, h))
passes f (c ∷ s) k h = go (passes f s) (f c) refl k h
  where
    go : ((k : ℕ) → k < prefix_len f s → f (get_or s k 0) ≡ true) → (b : Bool) → f c ≡ b → (k : ℕ) → k < cond b (1 + prefix_len f s) 0 →
        f (get_or (c ∷ s) k 0) ≡ true
    go later true e zero h = e
    go later true e (suc k) h = later k (omega (arith, h))
    go later false e k h = absurd (omega (arith, h))

pub utf8_end : (f : ℕ → Bool) → IsAsciiTest f → (s : List ℕ) → IsUtf8 s → IsUtf8 (without_end f s)
utf8_end f ascii s u = go (suffix_len f s) refl
  where
    go : (n : ℕ) → suffix_len f s ≡ n → IsUtf8 (take (length s - n) s)
    go zero e = subst IsUtf8 (sym (take_all (length s - 0) s (omega arith))) u
    go (suc k) e =
        let long = suffix_len-le-length f s in
        let i : ℕ = length s - suc k in
        let within : i < length s = omega (arith, long, e) in
        let same : length s - 1 - k ≡ i = omega arith in
        let last : f (get_or (reverse s) k 0) ≡ true = passes f (reverse s) k (omega (arith, e)) in
        let byte : get_or s i 0 ≡ get_or (reverse s) k 0 = ap (λ n. get_or s n 0) (sym same) ∙ sym (get_or-reverse s k 0 (omega (arith, long, e))) in
        let small = ascii (get_or (reverse s) k 0) last in
        IsUtf8-take s i u (IsCharBoundary-before_ascii s i within (omega (arith, byte, small)))
