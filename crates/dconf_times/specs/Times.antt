-- When paths were set, as programs that take turns to write note it for each other.
use Rattle.std.specs.Prelude.{ℕ, Bool, List, [], ◌∷◌, max, nat_le, nat_lt, ◌&&◌, if◌then◌else◌}
use Rattle.dconf_model.specs.Locks.{covers}
use Rattle.dconf_times.specs.declared.times.DconfdbTime.{DconfdbTime}

-- a key that was set, or a directory of which all keys were reset, when, and the caller's number for what was left there
pub record Note : Type 0 where
  pub path : List ℕ
  pub when : ℕ
  pub value : ℕ

abbrev pub note_of : DconfdbTime → Note
note_of time = record { path = time.path.now; when = time.when; value = time.value }

-- a note of the future counts for nothing
abbrev pub is_known : ℕ → Note → Bool
is_known now note = nat_le note.when now

-- what a note says of a path: the time where it is of the path or of a directory above it, and else 0
abbrev pub time_told : ℕ → List ℕ → Note → ℕ
time_told now path note = if is_known now note && covers note.path path then note.when else 0

-- when a path was set last: the time of the latest note of it, or of a directory above it; 0 where there is none
abbrev pub time_of : ℕ → List ℕ → List Note → ℕ
time_of now path [] = 0
time_of now path (note ∷ more) = max (time_told now path note) (time_of now path more)

-- an edit of that time is overtaken where its path was set later
abbrev pub is_overtaken : ℕ → List ℕ → ℕ → List Note → Bool
is_overtaken now path when notes = nat_lt when (time_of now path notes)

-- the latest of these times, in whatever order they stand; 0 where there is none
abbrev pub latest_of : List Note → ℕ
latest_of [] = 0
latest_of (note ∷ more) = max note.when (latest_of more)
