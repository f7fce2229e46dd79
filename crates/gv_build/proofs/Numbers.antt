-- A number's bytes, as the format has them and as the machine gives them.
use Rattle.std.proofs.Common.{ℕ, zero, suc, ◌+◌, ◌*◌, ◌/◌, ◌%◌, ◌^◌, ◌<◌, ◌≤◌, ◌≡◌, List, [], ◌∷◌, length, take, refl, sym, ap, ap₂, ◌∙◌, arith}
use Rattle.std.proofs.Math.ListN.{get_or}
use Rattle.std.specs.Int.{byte_at, bytes_low_first}
use Rattle.gv_model.specs.BasicValue.{number_in}
use Rattle.gv_model.specs.Encode.{number_bytes}
use Rattle.gv_model.proofs.NumberBytes.{low_bytes}

take_low : (w k i n : ℕ) → w ≤ k → take w (bytes_low_first i k n) ≡ bytes_low_first i w n
take_low zero k i n h = refl
take_low (suc w) zero i n h = absurd (omega arith)
take_low (suc w) (suc k) i n h = ap (λ bs. byte_at i n ∷ bs) (take_low w k (suc i) n (omega arith))

-- the first bytes of a number that fits in them
pub taken_bytes : (w n : ℕ) → w ≤ 8 → n < 256 ^ w → take w (bytes_low_first 0 8 n) ≡ number_bytes w n
taken_bytes w n h g = take_low w 8 0 n h ∙ sym (low_bytes w n g)

-- bytes are those of the number in them
bytes_back : (b : List ℕ) → ((i : ℕ) → get_or b i 0 < 256) → number_bytes (length b) (number_in b) ≡ b
unfolding number_bytes number_in
bytes_back [] h = refl
bytes_back (x ∷ []) h = ap (λ y. y ∷ []) (omega arith)
bytes_back (x ∷ y ∷ ys) h =
    let under : x < 256 = h 0 in
    let low : (x + 256 * number_in (y ∷ ys)) % 256 ≡ x = omega arith in
    let high : (x + 256 * number_in (y ∷ ys)) / 256 ≡ number_in (y ∷ ys) = omega arith in
    ap₂ ◌∷◌ low (ap (number_bytes (length (y ∷ ys))) high ∙ bytes_back (y ∷ ys) (λ i. h (suc i)))

pub eight_bytes : (b : List ℕ) → length b ≡ 8 → ((i : ℕ) → get_or b i 0 < 256) → b ≡ number_bytes 8 (number_in b)
eight_bytes b size h = sym (ap (λ n. number_bytes n (number_in b)) (sym size) ∙ bytes_back b h)
