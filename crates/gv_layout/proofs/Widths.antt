-- How wide framing offsets are.
use Rattle.std.proofs.Common.{◌≡◌, ℕ, ◌<◌, ◌≤◌, Bool, true, false, cond, ◌==◌, nat_le, refl, arith}
use Rattle.gv_model.specs.Layout.{offset_width}

pub record IsWidth (n w : ℕ) : Type 0 where
  pub within : w ≤ n
  pub narrow : w ≤ 8
  pub some : 0 < n → 0 < w

pub offset_width_is : (n : ℕ) → IsWidth n (offset_width n)
unfolding offset_width
offset_width_is n = go (n == 0) (nat_le n 255) (nat_le n 65535) (nat_le n 4294967295) refl refl refl refl
  where
    go : (a b c d : Bool) → (n == 0) ≡ a → nat_le n 255 ≡ b → nat_le n 65535 ≡ c → nat_le n 4294967295 ≡ d
        → IsWidth n (cond a 0 (cond b 1 (cond c 2 (cond d 4 8))))
    go true b c d e f g h = let z : n ≡ 0 = grind arith in record { within = omega arith; narrow = omega arith; some = λ l. absurd (omega arith) }
    go false true c d e f g h = let z : 0 < n = grind arith in record { within = omega arith; narrow = omega arith; some = λ l. omega arith }
    go false false true d e f g h = let z : 255 < n = grind arith in record { within = omega arith; narrow = omega arith; some = λ l. omega arith }
    go false false false true e f g h = let z : 65535 < n = grind arith in record { within = omega arith; narrow = omega arith; some = λ l. omega arith }
    go false false false false e f g h = let z : 4294967295 < n = grind arith in record { within = omega arith; narrow = omega arith; some = λ l. omega arith }

pub width_is : (n w v : ℕ) → w ≡ v → v ≡ offset_width n → IsWidth n w
width_is n w v e f = let is = offset_width_is n in record { within = omega (arith, is.within, e, f); narrow = omega (arith, is.narrow, e, f); some = λ l. omega (arith, is.some l, e, f) }
