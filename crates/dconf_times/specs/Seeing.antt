-- What others changed without a note, and what is noted of it; and which guesses go when an edit is made.
use Rattle.std.specs.Prelude.{◌≡◌, ◌≤◌, ℕ, Bool, true, false, List, IsTrue, not, nat_lt, ◌&&◌, ◌==◌}
use Rattle.std.specs.List.{AllByRecursion, list_any}
use Rattle.std.specs.Str.{bytes_eq}
use Rattle.dconf_model.specs.Locks.{covers}
use Rattle.dconf_times.specs.Leaving.{is_guess}
use Rattle.dconf_times.specs.Times.{Note, note_of}
use Rattle.dconf_times.specs.declared.times.DconfdbTime.{DconfdbTime}
use Rattle.dconf_times.specs.declared.seeing.DconfdbSeen.{DconfdbSeen}

abbrev pub seen_of : DconfdbSeen → Note
seen_of s = note_of s.time

-- a note says that the path, or a directory above it, was set after that one
abbrev pub is_later_there : List ℕ → DconfdbTime → DconfdbTime → Bool
is_later_there path note other = covers other.path.now path && nat_lt note.when other.when

-- the latest note of the path says that this was left there: the value, or that there is none
abbrev pub is_left_by : List DconfdbTime → DconfdbSeen → DconfdbTime → Bool
is_left_by notes s note =
    (covers note.path.now s.time.path.now && (note.value == s.time.value)) && not (list_any (is_later_there s.time.path.now note) notes)

-- whoever left the file noted nothing, and no note says that this was left
abbrev pub is_unnoted : List DconfdbTime → DconfdbSeen → Bool
is_unnoted notes s = not s.is_noted && not (list_any (is_left_by notes s) notes)

-- the guess of when a path was set goes where an edit of it is made
abbrev pub is_made_at : DconfdbTime → DconfdbTime → Bool
is_made_at note made = bytes_eq made.path.now note.path.now

abbrev pub stays_beside : List DconfdbTime → DconfdbTime → Bool
stays_beside made note = not (is_guess note.when && list_any (is_made_at note) made)

-- ---- the law

-- each note of the path, or of a directory above it, is no later than this one
abbrev pub IsLatestOf : List ℕ → List DconfdbTime → DconfdbTime → Type 0
IsLatestOf path notes note = AllByRecursion (λ other. covers other.path.now path ≡ true → other.when ≤ note.when) notes

-- A note says what was left at a path only while none is later there: so what goes that was set after a directory was reset is noted anew.
abbrev pub TheLatestNoteCounts : Type 0
TheLatestNoteCounts = (notes : List DconfdbTime) (s : DconfdbSeen) (note : DconfdbTime) → is_left_by notes s note ≡ true → IsLatestOf s.time.path.now notes note
