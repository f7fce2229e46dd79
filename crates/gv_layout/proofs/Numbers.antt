-- How large a number of some bytes gets, and what it is in a few.
use Rattle.std.proofs.Common.{◌≡◌, ℕ, zero, suc, ◌+◌, ◌-◌, ◌*◌, ◌^◌, ◌<◌, ◌≤◌, List, [], ◌∷◌, length, get_or, take, drop, Bool, true, false, not, cond, ◌==◌, Fits, w8, refl, sym, ap, ◌∙◌, arith}
use Rattle.std.proofs.Math.Seq.{take-length}
use Rattle.std.proofs.Math.Nat.{pow-succ'}
use Rattle.gv_model.specs.BasicValue.{number_in, truth, truth_bits}

abbrev pub AreBytes : List ℕ → Type 0
AreBytes b = (k : ℕ) → Fits w8 (get_or b k 0)

pub number_small : (n : ℕ) (b : List ℕ) → length b ≤ n → AreBytes b → number_in b < 256 ^ n
unfolding number_in
number_small zero [] h bytes = omega arith
number_small zero (x ∷ b) h bytes = absurd (omega arith)
number_small (suc n) [] h bytes =
    let low = number_small n [] (omega arith) bytes in
    omega (arith, low, pow-succ' 256 n)
number_small (suc n) (x ∷ b) h bytes =
    let low = number_small n b (omega arith) (λ k. bytes (suc k)) in
    omega (arith, low, bytes 0, pow-succ' 256 n)

the_rest : (x : ℕ) (b : List ℕ) → length (x ∷ b) - 1 ≡ length b
the_rest x b = omega arith

-- the first byte, and the number in those after it
pub record IsSplit (b : List ℕ) (low high : ℕ) : Type 0 where
  pub value : low + 256 * high ≡ number_in b
  pub small : high < 2 ^ 56
  pub byte : low < 256

pub split_number : (b : List ℕ) (low high : ℕ) → 1 ≤ length b → length b ≤ 8 → AreBytes b
    → low ≡ get_or b 0 0 → high ≡ number_in (take (length b - 1) (drop 1 b)) → IsSplit b low high
unfolding number_in
split_number [] low high h g bytes first others = absurd (omega arith)
split_number (x ∷ b) low high h g bytes first others =
    let all : take (length (x ∷ b) - 1) b ≡ b = ap (λ k. take k b) (the_rest x b) ∙ take-length b in
    let same : high ≡ number_in b = others ∙ ap number_in all in
    let below = number_small 7 b (omega arith) (λ k. bytes (suc k)) in
    record { value = omega (arith, first, same); small = omega (arith, same, below); byte = omega (arith, first, bytes 0) }

pub number_of_none : (b : List ℕ) → length b < 1 → 0 ≡ number_in b
unfolding number_in
number_of_none [] h = refl
number_of_none (x ∷ b) h = absurd (omega arith)

-- ---- the number in one, two or four bytes

-- what is multiplied by what occurs in the number of four bytes
four : (a b c d : ℕ) → a + 256 * b + 65536 * (c + 256 * d) ≡ a + 256 * (b + 256 * (c + 256 * (d + 256 * 0)))
four a b c d = omega arith

pub one_byte : (b : List ℕ) (x : ℕ) → 1 ≤ length b → length b < 2 → x ≡ get_or b 0 0 → x ≡ number_in b
unfolding number_in
one_byte (x0 ∷ []) x h g e = omega (arith, e)
one_byte _ x h g e = absurd (omega arith)

pub two_bytes : (b : List ℕ) (x y : ℕ) → 2 ≤ length b → length b < 3 → x ≡ get_or b 0 0 → y ≡ get_or b 1 0 → x + 256 * y ≡ number_in b
unfolding number_in
two_bytes (x0 ∷ x1 ∷ []) x y h g e f = omega (arith, e, f)
two_bytes _ x y h g e f = absurd (omega arith)

pub four_bytes : (b : List ℕ) (x y z w : ℕ) → 4 ≤ length b → length b < 5
    → x ≡ get_or b 0 0 → y ≡ get_or b 1 0 → z ≡ get_or b 2 0 → w ≡ get_or b 3 0 → x + 256 * y + 65536 * (z + 256 * w) ≡ number_in b
unfolding number_in
four_bytes (x0 ∷ x1 ∷ x2 ∷ x3 ∷ []) x y z w h g e f i j = rw (e, f, i, j) (four x0 x1 x2 x3)
four_bytes _ x y z w h g e f i j = absurd (omega arith)

-- ---- the number in one byte, and the truth value

pub byte_number : (b : List ℕ) → length b ≡ 1 → number_in b ≡ get_or b 0 0
unfolding number_in
byte_number (c ∷ []) h = omega arith
byte_number _ h = absurd (omega arith)

pub truth_number : (b : List ℕ) → length b ≡ 1 → truth_bits (not (get_or b 0 0 == 0)) ≡ truth (number_in b)
truth_number b h = go (get_or b 0 0 == 0) ∙ ap truth (sym (byte_number b h))
  where
    go : (c : Bool) → truth_bits (not c) ≡ cond c 0 1
    go true = refl
    go false = refl
