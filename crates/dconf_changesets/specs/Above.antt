-- What both of two paths are, or are in.
use Rattle.std.specs.Prelude.{◌≡◌, ◌⊎◌, ◌≤◌, ◌<◌, ℕ, zero, suc, Bool, true, false, ◌&&◌, if◌then◌else◌, List, length, take, min}
use Rattle.dconf_model.specs.Locks.{covers}
use Rattle.dconf_model.specs.Paths.{ends_with_slash}

-- the path's first bytes, so many, are it, or a directory in which it is; and the other one, too
abbrev pub is_shared : List ℕ → List ℕ → ℕ → Bool
is_shared path other n = covers (take n path) path && covers (take n path) other

-- how many bytes the longest such path has, of at most so many; 0: there is none
abbrev pub longest_shared : List ℕ → List ℕ → ℕ → ℕ
longest_shared path other zero = 0
longest_shared path other (suc n) = if is_shared path other (suc n) then suc n else longest_shared path other n

abbrev pub shared_within : List ℕ → ℕ → List ℕ → ℕ
shared_within path most other = longest_shared path other (min (length path) most)

-- ---- the law

pub record IsShared (path : List ℕ) (most : ℕ) (other : List ℕ) : Type 0 where
  pub short : shared_within path most other ≤ most
  -- none that is longer is passed over
  pub longest : (n : ℕ) → shared_within path most other < n → n ≤ min (length path) most → is_shared path other n ≡ false
  -- what covers a path is the path itself, or one of its directories
  pub all : covers other path ≡ true → (other ≡ path) ⊎ ((ends_with_slash other ≡ true) × (other ≡ take (length other) path))
  -- and so it is one of those that the path shares with itself
  pub own : covers other path ≡ true → (other ≡ take (length other) path) × (is_shared path path (length other) ≡ true)

abbrev pub NoDirectoryIsPassedOver : Type 0
NoDirectoryIsPassedOver = (path : List ℕ) (most : ℕ) (other : List ℕ) → IsShared path most other
