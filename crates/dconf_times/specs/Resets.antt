-- When what waits counts as set. A directory is reset in the turn itself, whenever that was asked for, and with it all of its change; so is
-- what sets something in it. Nothing else is.
use Rattle.std.specs.Prelude.{◌≡◌, ◌≤◌, ℕ, Bool, false, List, IsTrue, ◌&&◌, ◌||◌, if◌then◌else◌}
use Rattle.std.specs.List.{list_any}
use Rattle.dconf_model.specs.Locks.{covers}
use Rattle.dconf_model.specs.Paths.{ends_with_slash}
use Rattle.dconf_times.specs.Moments.{time_of_moment}
use Rattle.dconf_times.specs.Noted.{is_among}
use Rattle.dconf_times.specs.Times.{Note}

-- the edit resets a directory
abbrev pub is_reset : Note → Bool
is_reset edit = ends_with_slash edit.path

-- it is of the directory itself, or of what is in it
abbrev pub is_in : List ℕ → Note → Bool
is_in directory edit = covers directory edit.path

-- something of the change is in a directory that this edit resets
abbrev pub is_in_reset : List Note → Note → Bool
is_in_reset change other = is_reset other && list_any (is_in other.path) change

-- the last of all moments, which is the turn's: what has not come yet is now
abbrev pub turns_own : ℕ
turns_own = 18446744073709551615

-- The moment of a change that was asked for in this one, beside the edits that are written with it.
abbrev pub moment_beside : List Note → List Note → ℕ → ℕ
moment_beside change others moment =
    if list_any is_reset change || list_any (is_in_reset change) others then turns_own else moment

-- ---- the law

pub record AreMomentsKept (change others : List Note) (moment : ℕ) : Type 0 where
  -- a change of which nothing is in a directory that is reset keeps its moment, so that what others set later stays
  pub apart : list_any is_reset change ≡ false → list_any (is_in_reset change) others ≡ false → moment_beside change others moment ≡ moment
  -- so does each where none is
  pub plain : list_any is_reset change ≡ false → list_any is_reset others ≡ false → moment_beside change others moment ≡ moment
  -- a directory is reset in the turn
  pub directory : (edit : Note) → IsTrue (is_among edit change) → IsTrue (is_reset edit) → moment_beside change others moment ≡ turns_own
  -- and what is set in it is no earlier
  pub below : (edit other : Note) → IsTrue (is_among edit change) → IsTrue (is_among other others) → IsTrue (is_reset other)
      → IsTrue (covers other.path edit.path) → moment_beside change others moment ≡ turns_own

-- the turn's own moment is the latest: of all moments of a clock of 64 bits none has a later time
abbrev pub IsTurnsLatest : Type 0
IsTurnsLatest = (now boot noted moment : ℕ) → moment ≤ turns_own → time_of_moment now boot moment noted ≤ time_of_moment now boot turns_own noted

pub record MomentsAreKept : Type 0 where
  pub each : (change others : List Note) (moment : ℕ) → AreMomentsKept change others moment
  pub latest : IsTurnsLatest
