-- When what failed is tried again, and when who rests is to wake.
use Rattle.std.specs.Prelude.{ℕ, ◌≡◌, ◌≢◌, ◌≤◌, ◌⊎◌, ◌*◌, min, max}

-- twice the pause before, from 50 milliseconds to two seconds
abbrev pub next_pause : ℕ → ℕ
next_pause pause = max 50000 (min 2000000 (2 * pause))

-- the first of the moments that are some
pub record IsFirstOf (one other moment : ℕ) : Type 0 where
  pub is : (moment ≡ one) ⊎ (moment ≡ other)
  pub some : moment ≢ 0
  pub first : one ≢ 0 → moment ≤ one
  pub then : other ≢ 0 → moment ≤ other
