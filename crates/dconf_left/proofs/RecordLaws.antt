-- Records, and the bytes that they are cut from.
use Rattle.std.proofs.Common.{ℕ, zero, suc, ◌+◌, ◌*◌, ◌/◌, ◌<◌, ◌≤◌, ◌≡◌, min, true, false, List, [], ◌∷◌, ◌++◌, length, take, drop, refl, sym, ◌∙◌, ap, arith, length-drop}
use Rattle.std.specs.Simd.{first_chunks}
use Rattle.std.proofs.Math.Seq.{take-add}
use Rattle.dconf_left.specs.declared.files.LeftFile.{LeftFile}
use Rattle.dconf_left.specs.Records.{file_in, is_one}
use Rattle.dconf_left.specs.Left.{joined, others, records}

-- ---- cut

pub records_none : (xs : List ℕ) → length xs < 56 → records xs ≡ []
records_none xs h = let n : length xs / 56 ≡ 0 = omega arith in ap (λ (k : ℕ). first_chunks 56 k xs) n

pub records_more : (xs : List ℕ) → 56 ≤ length xs → records xs ≡ take 56 xs ∷ records (drop 56 xs)
records_more xs h =
    let n : length xs / 56 ≡ suc (length (drop 56 xs) / 56) = omega (arith, length-drop 56 xs) in
    ap (λ (k : ℕ). first_chunks 56 k xs) n

-- what is behind the first, if that is of the file
pub others_first : (f : LeftFile) (xs : List ℕ) → 56 ≤ length xs → is_one f (file_in (take 56 xs)) ≡ true → records (drop 56 xs) ≡ others f (records xs)
others_first f xs h is = rw (records_more xs h) (rw is refl)

pub others_all : (f : LeftFile) (xs : List ℕ) → 56 ≤ length xs → is_one f (file_in (take 56 xs)) ≡ false → records xs ≡ others f (records xs)
others_all f xs h is = rw (records_more xs h) (rw is refl)

pub others_none : (f : LeftFile) (xs : List ℕ) → length xs < 56 → records xs ≡ others f (records xs)
others_none f xs h = rw (records_none xs h) refl

-- ---- joined

joined_all : (k : ℕ) (xs : List ℕ) → joined (first_chunks 56 k xs) ≡ take (56 * k) xs
joined_all zero xs = refl
joined_all (suc k) xs =
    let further : 56 * suc k ≡ 56 + 56 * k = omega arith in
    ap (λ ys. take 56 xs ++ ys) (joined_all k (drop 56 xs)) ∙ (sym (take-add 56 (56 * k) xs) ∙ ap (λ (n : ℕ). take n xs) (sym further))

take_chunks : (m k : ℕ) (xs : List ℕ) → take m (first_chunks 56 k xs) ≡ first_chunks 56 (min m k) xs
take_chunks zero k xs = let none : min 0 k ≡ 0 = omega arith in rw none refl
take_chunks (suc m) zero xs = let none : min (suc m) 0 ≡ 0 = omega arith in rw none refl
take_chunks (suc m) (suc k) xs =
    let one : min (suc m) (suc k) ≡ suc (min m k) = omega arith in
    rw one (ap (λ (ys : List (List ℕ)). take 56 xs ∷ ys) (take_chunks m k (drop 56 xs)))

-- the newest are at the start
pub newest_joined : (m n : ℕ) (xs front : List ℕ) → n ≡ min m (length xs / 56) → front ≡ take (n * 56) xs → front ≡ joined (take m (records xs))
newest_joined m n xs front count is =
    let same : n * 56 ≡ 56 * min m (length xs / 56) = omega (arith, count) in
    is ∙ (ap (λ (k : ℕ). take k xs) same ∙ (sym (joined_all (min m (length xs / 56)) xs) ∙ ap joined (sym (take_chunks m (length xs / 56) xs))))
