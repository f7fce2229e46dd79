-- The least width of offsets.
use Rattle.std.proofs.Common.{ℕ, ◌+◌, ◌*◌, ◌<◌, ◌≡◌, ◌≢◌, ◌↔◌, IsTrue, nat_lt, arith}
use Rattle.gv_model.specs.Layout.{offset_width}
use Rattle.gv_model.specs.Encode.{least_width}

pub narrow_one : (m n w : ℕ) → w ≡ offset_width (m + w * n) → w ≡ 1 → least_width m n ≡ w
unfolding offset_width least_width
narrow_one m n w h e = grind arith

pub narrow_two : (m n w : ℕ) → w ≡ offset_width (m + w * n) → w ≡ 2 → (IsTrue (nat_lt 255 (m + n)) ↔ (least_width m n ≡ w))
unfolding offset_width least_width
narrow_two m n w h e = (λ g. grind (arith, g), λ g. grind (arith, g))

pub narrow_four : (m n w : ℕ) → w ≡ offset_width (m + w * n) → w ≡ 4 → (IsTrue (nat_lt 65535 (m + 2 * n)) ↔ (least_width m n ≡ w))
unfolding offset_width least_width
narrow_four m n w h e = (λ g. grind (arith, g), λ g. grind (arith, g))

pub is_eight : (m n w : ℕ) → 0 < w → 0 < n → w ≡ offset_width (m + w * n) → w ≢ 1 → w ≢ 2 → w ≢ 4 → w ≡ 8
unfolding offset_width
is_eight m n w wide some h one two four = grind arith

pub narrow_eight : (m n w : ℕ) → w ≡ offset_width (m + w * n) → w ≡ 8 → (IsTrue (nat_lt 4294967295 (m + 4 * n)) ↔ (least_width m n ≡ w))
unfolding offset_width least_width
narrow_eight m n w h e = (λ g. grind (arith, g), λ g. grind (arith, g))
