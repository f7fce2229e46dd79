-- Counts of failures.
use Rattle.std.specs.Prelude.{◌≡◌, ◌<◌, ◌+◌, ◌-◌, ◌^◌, ℕ, min}

-- one more, which stops at u64::MAX
abbrev pub one_more : ℕ → ℕ
one_more n = min (n + 1) (2 ^ 64 - 1)

-- nothing failed between two counts, as far as they can tell
pub record NoneFailed (old new : ℕ) : Type 0 where
  pub same : new ≡ old
  pub told : new < 2 ^ 64 - 1
