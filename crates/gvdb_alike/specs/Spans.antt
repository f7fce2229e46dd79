-- Where two files differ.
use Rattle.std.specs.Prelude.{◌≡◌, ◌≢◌, ◌+◌, ◌≤◌, ◌<◌, ◌⊎◌, ℕ, List, drop, slice_get, take}

-- they differ at the first position and at the last one, and neither before nor after; past its end a file has no byte
pub record IsDifferingSpan (one other : List ℕ) (first last : ℕ) : Type 0 where
  pub before : take first one ≡ take first other
  pub at_first : slice_get one first ≢ slice_get other first
  pub at_last : slice_get one last ≢ slice_get other last
  pub after : drop (last + 1) one ≡ drop (last + 1) other

-- ---- words of private parts

-- they differ from the first position up to the last at most
pub record AreSameOutside (one other : List ℕ) (first last : ℕ) : Type 0 where
  pub before : take first one ≡ take first other
  pub after : drop (last + 1) one ≡ drop (last + 1) other

-- none of the bytes from there up to there is among these
abbrev pub LiesOutside : ℕ → ℕ → ℕ → ℕ → Type 0
LiesOutside first last from to = (to ≤ first) ⊎ (last < from)
