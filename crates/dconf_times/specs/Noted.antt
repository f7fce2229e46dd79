-- Notes of what was set, with more of them: at most so many, and of each path the latest.
use Rattle.std.specs.Prelude.{◌≡◌, ◌⊎◌, ◌≤◌, ℕ, Bool, List, length, Some, nat_le, nat_lt, ◌&&◌, ◌==◌, IsTrue, if◌then◌else◌, set, slice_get}
use Rattle.std.specs.List.{list_any, list_all}
use Rattle.std.specs.Str.{bytes_eq}
use Rattle.dconf_times.specs.Times.{Note, latest_of}

abbrev pub is_note : Note → Note → Bool
is_note note other = bytes_eq note.path other.path && (note.when == other.when && note.value == other.value)

abbrev pub is_among : Note → List Note → Bool
is_among note notes = list_any (is_note note) notes

-- the other note says it too: it is of the same path, and as late
abbrev pub is_said_by : Note → Note → Bool
is_said_by note other = bytes_eq note.path other.path && nat_le note.when other.when

abbrev pub is_as_late : Note → Note → Bool
is_as_late note other = nat_le note.when other.when

-- a note as late of its path is kept; or as many as may be are kept, each as late
abbrev pub IsKept : ℕ → List Note → Note → Type 0
IsKept most kept note =
    IsTrue (list_any (is_said_by note) kept) ⊎ ((most ≤ length kept) × IsTrue (list_all (is_as_late note) kept))

-- what is kept of the notes that are given
pub record AreNoted (now most : ℕ) (given kept : List Note) : Type 0 where
  pub few : length kept ≤ most
  pub from : (note : Note) → IsTrue (is_among note kept) → IsTrue (is_among note given) × (note.when ≤ now)
  -- none is left out that is later than one that is kept, but for a later one of its path
  pub each : (note : Note) → IsTrue (is_among note given) → note.when ≤ now → IsKept most kept note

-- law: none of them is later
abbrev pub NoneIsLater : Type 0
NoneIsLater = (notes : List Note) (most : ℕ) → latest_of notes ≤ most → IsTrue (list_all (λ note. nat_le note.when most) notes)

-- ---- words of private parts

-- one note is added
pub record IsAdded (most : ℕ) (added : Note) (old new : List Note) : Type 0 where
  pub few : length old ≤ most → length new ≤ most
  pub from : (note : Note) → IsTrue (is_among note new) → IsTrue (is_among note old) ⊎ IsTrue (is_note note added)
  pub carries : (note : Note) → IsKept most old note → IsKept most new note
  pub has : IsKept most new added

-- those of the past are added
pub record AreAdded (now most : ℕ) (given old new : List Note) : Type 0 where
  pub few : length old ≤ most → length new ≤ most
  pub from : (note : Note) → IsTrue (is_among note new) → IsTrue (is_among note old) ⊎ (IsTrue (is_among note given) × (note.when ≤ now))
  pub carries : (note : Note) → IsKept most old note → IsKept most new note
  pub has : (note : Note) → IsTrue (is_among note given) → note.when ≤ now → IsKept most new note

-- it is put in the place of the one at this index, if that is older
pub record IsPut (note : Note) (at : ℕ) (old new : List Note) : Type 0 where
  pub other : Note
  pub was : slice_get old at ≡ Some other
  pub put : new ≡ (if nat_lt other.when note.when then set old at note else old)

-- all are as late as the one at this index
pub record IsOldest (at : ℕ) (notes : List Note) : Type 0 where
  pub oldest : Note
  pub is_at : slice_get notes at ≡ Some oldest
  pub all : IsTrue (list_all (is_as_late oldest) notes)
