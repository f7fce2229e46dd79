-- Which moment is which time of day.
use Rattle.std.specs.Prelude.{◌≡◌, ◌≤◌, ◌<◌, ◌+◌, ◌-◌, ◌%◌, ℕ, false, true, max, nat_le, nat_lt, ◌&&◌, if◌then◌else◌}
use Rattle.dconf_times.specs.Leaving.{is_guess}

-- the even number at or below it, which is no guess
abbrev pub even : ℕ → ℕ
even t = t - t % 2

-- A moment of the clock that nobody sets, by the clock of the day: `now` is `boot` by that one. What has not come yet is now.
abbrev pub by_clock : ℕ → ℕ → ℕ → ℕ
by_clock now boot moment = even (now - (boot - moment))

-- A program's set is no older than what it noted before, unless the clock was put back behind that.
abbrev pub time_of_moment : ℕ → ℕ → ℕ → ℕ → ℕ
time_of_moment now boot moment noted =
    if nat_lt (by_clock now boot moment) noted && nat_le noted now then noted else by_clock now boot moment

-- when a file was written, or got its name: the guess of when it was changed
abbrev pub time_of_file : ℕ → ℕ → ℕ
time_of_file written touched = max written touched + (1 - max written touched % 2)

-- ---- the law

-- of a program that noted an even time before, in a turn
pub record IsTimed (now boot noted : ℕ) : Type 0 where
  pub past : (moment : ℕ) → time_of_moment now boot moment noted ≤ now
  pub in_order : (moment later : ℕ) → moment ≤ later → time_of_moment now boot moment noted ≤ time_of_moment now boot later noted
  pub own : (moment : ℕ) → noted ≤ now → noted ≤ time_of_moment now boot moment noted
  -- the clock was put back behind what was noted: it counts alone
  pub put_back : (moment : ℕ) → now < noted → time_of_moment now boot moment noted ≡ by_clock now boot moment
  pub no_guess : (moment : ℕ) → is_guess noted ≡ false → is_guess (time_of_moment now boot moment noted) ≡ false

-- two turns, between which nobody set the clock of the day: a moment of either is the same time in both
abbrev pub IsOneClock : Type 0
IsOneClock = (now boot other_now other_boot moment : ℕ) → now + other_boot ≡ other_now + boot → moment ≤ boot → moment ≤ other_boot →
    boot ≤ now + moment → by_clock now boot moment ≡ by_clock other_now other_boot moment

-- a file's time is a guess, and no earlier than the file
pub record IsGuessed (written touched : ℕ) : Type 0 where
  pub guess : is_guess (time_of_file written touched) ≡ true
  pub later : (written ≤ time_of_file written touched) × (touched ≤ time_of_file written touched)
  pub hardly : time_of_file written touched ≤ max written touched + 1

pub record MomentsAreTimed : Type 0 where
  pub timed : (now boot noted : ℕ) → IsTimed now boot noted
  pub one_clock : IsOneClock
  pub guessed : (written touched : ℕ) → IsGuessed written touched
