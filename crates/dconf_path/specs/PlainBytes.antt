-- Bytes that can't keep a text from being a path, wherever they are in it.
use Rattle.std.specs.Prelude.{◌≡◌, ◌≢◌, ◌+◌, ◌<◌, ℕ, List, slice_index}

-- the byte at a place is of ASCII, not zero, and no slash before another
pub record IsPlainAt (bytes : List ℕ) (k : ℕ) : Type 0 where
  pub ascii : slice_index bytes k < 128
  pub not_zero : slice_index bytes k ≢ 0
  pub one_slash : slice_index bytes k ≡ 47 → slice_index bytes (k + 1) ≢ 47

-- the bytes up to a place are
abbrev pub ArePlain : List ℕ → ℕ → Type 0
ArePlain bytes end = (k : ℕ) → k < end → IsPlainAt bytes k
