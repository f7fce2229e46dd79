-- The newest edit of each key that waits: its number, by the key's. 0 is none.
use Rattle.std.specs.Prelude.{ℕ, ◌≡◌, List, Option, Some, None, slice_get, slice_set}

abbrev pub found_by : Option ℕ → ℕ
found_by None = 0
found_by (Some number) = number

-- what is found of a key
abbrev pub found : List ℕ → ℕ → ℕ
found newest key = found_by (slice_get newest key)

-- An edit is put as the newest of its key, in the place of the one before it.
pub record IsPut (newest : List ℕ) (key number : ℕ) (after : List ℕ) (before : ℕ) : Type 0 where
  pub after_is : after ≡ slice_set newest key number
  pub before_is : before ≡ found newest key
