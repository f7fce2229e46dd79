-- Numbers in bytes, widths, and parts of joined lists.
use Rattle.std.proofs.Common.{ℕ, zero, suc, ◌+◌, ◌-◌, ◌*◌, ◌/◌, ◌<◌, ◌≤◌, ◌≡◌, List, ◌++◌, length, take, slice_range, refl, ap, ◌∙◌, arith, div-add-mod', ◌%◌, ◌^◌, [], ◌∷◌, sym, ap₂}
use Rattle.std.proofs.lemmas.List.{take_at, drop_at}
use Rattle.std.proofs.Math.Nat.{pow-succ', div-div-eq-div-mul}
use Rattle.std.specs.Int.{byte_at, bytes_low_first}
use Rattle.gv_model.specs.Layout.{round_up, offset_width}
use Rattle.gv_model.specs.BasicValue.{number_in}
use Rattle.gv_model.specs.Encode.{number_bytes, least_width}

pub length-number_bytes : (w n : ℕ) → length (number_bytes w n) ≡ w
unfolding number_bytes
length-number_bytes zero n = refl
length-number_bytes (suc zero) n = refl
length-number_bytes (suc (suc w)) n = ap suc (length-number_bytes (suc w) (n / 256))

pub number_in-number_bytes : (w n : ℕ) → 0 < w → number_in (number_bytes w n) ≡ n
unfolding number_in number_bytes
number_in-number_bytes zero n h = absurd (omega arith)
number_in-number_bytes (suc zero) n h = omega arith
number_in-number_bytes (suc (suc w)) n h = let rest = number_in-number_bytes (suc w) (n / 256) (omega arith) in omega arith

pub le-round_up : (a p : ℕ) → 0 < a → p ≤ round_up a p
unfolding round_up
le-round_up a p h = omega (arith, div-add-mod' (p + (a - 1)) a)

-- the middle of three
pub slice_mid : (xs ys zs : List ℕ) (from to : ℕ) → length xs ≡ from → from + length ys ≡ to → slice_range (xs ++ (ys ++ zs)) from to ≡ ys
slice_mid xs ys zs from to h g = ap (take (to - from)) (drop_at xs (ys ++ zs) from h) ∙ take_at ys zs (to - from) (omega arith)

-- the least width is the width of what is written
pub offset_width-least : (n k : ℕ) → 0 < k → offset_width (n + least_width n k * k) ≡ least_width n k
unfolding offset_width least_width
offset_width-least n k h = grind arith

-- ---- as the machine gives them

byte_next : (i n : ℕ) → byte_at (suc i) n ≡ byte_at i (n / 256)
byte_next zero n = refl
byte_next (suc i) n = ap (λ m. m % 256) (ap (λ k. n / k) (pow-succ' 256 (suc i)) ∙ sym (div-div-eq-div-mul n 256 (256 ^ suc i)))

bytes_next : (i k n : ℕ) → bytes_low_first (suc i) k n ≡ bytes_low_first i k (n / 256)
bytes_next i zero n = refl
bytes_next i (suc k) n = ap₂ ◌∷◌ (byte_next i n) (bytes_next (suc i) k n)

pub low_bytes : (w n : ℕ) → n < 256 ^ w → number_bytes w n ≡ bytes_low_first 0 w n
unfolding number_bytes
low_bytes zero n h = refl
low_bytes (suc zero) n h = ap (λ b. b ∷ []) (omega arith)
low_bytes (suc (suc w)) n h =
    let power : 256 ^ suc (suc w) ≡ 256 * 256 ^ suc w = pow-succ' 256 (suc w) in
    let less : n / 256 < 256 ^ suc w = omega arith in
    ap (λ bs. n % 256 ∷ bs) (low_bytes (suc w) (n / 256) less ∙ sym (bytes_next 0 (suc w) n))
