-- What comes of turns, in each of which a program leaves out what is overtaken, and notes what it writes.
use Rattle.std.specs.Prelude.{◌≡◌, ◌⊎◌, ◌≤◌, ◌<◌, ℕ, Bool, List, [], ◌∷◌, ◌++◌, length, map, Option, Some, None, IsTrue, if◌then◌else◌}
use Rattle.std.specs.List.{AllByRecursion, filter, flat_map, list_any}
use Rattle.std.specs.Option.{option_or}
use Rattle.dconf_model.specs.Locks.{covers}
use Rattle.dconf_model.specs.Paths.{ends_with_slash}
use Rattle.dconf_times.specs.Noted.{AreNoted}
use Rattle.dconf_times.specs.Times.{Note, is_overtaken}

-- A key is set, and when. Without a value its own goes; where the path is a directory's, those of all keys below it.
pub record Edit : Type 0 where
  pub note : Note
  pub value : Option (List ℕ)

-- The moment of a turn, what is noted then, and the changes that are to be written in it, each of edits that are made together; the
-- oldest first.
pub record Turn : Type 0 where
  pub now : ℕ
  pub found : List Note
  pub changes : List (List Edit)

-- what was written, one after another, and what is noted
pub record Course : Type 0 where
  pub written : List Edit
  pub notes : List Note

abbrev pub no_course : Course
no_course = record { written = []; notes = [] }

abbrev pub is_late : Turn → Edit → Bool
is_late turn e = is_overtaken turn.now e.note.path e.note.when turn.found

-- a change is left out where one of its edits is overtaken
abbrev pub is_left_out : (Edit → Bool) → List Edit → Bool
is_left_out late change = list_any late change

abbrev pub whole : (Edit → Bool) → List Edit → List Edit
whole late change = if is_left_out late change then [] else change

-- the others, each of them whole
abbrev pub written_in : Turn → List Edit
written_in turn = flat_map (whole (is_late turn)) turn.changes

-- Of a change that is left out those that are overtaken themselves, and else all: not what is left out for another one's sake.
abbrev pub counted : (Edit → Bool) → List Edit → List Edit
counted late change = if is_left_out late change then filter late change else change

abbrev pub edits_of : Turn → List Edit
edits_of turn = flat_map (λ change. change) turn.changes

-- each is no older than those before it
abbrev pub AreInOrder : List Edit → Type 0
AreInOrder [] = Unit {0}
AreInOrder (e ∷ more) = AllByRecursion (λ later. e.note.when ≤ later.note.when) more × AreInOrder more

-- No clock goes back: a turn is later than those before it, and than its edits. All below a directory is reset in the turn
-- itself, and nothing waits for it.
pub record IsTimely (since : ℕ) (turn : Turn) : Type 0 where
  pub later : since ≤ turn.now
  pub past : AllByRecursion (λ e. e.note.when ≤ turn.now) (edits_of turn)
  pub in_order : AreInOrder (edits_of turn)
  pub directories : AllByRecursion (λ e. IsTrue (ends_with_slash e.note.path) → e.note.when ≡ turn.now) (edits_of turn)

-- a turn, in which there is room for each note
pub record IsTurn (most : ℕ) (turn : Turn) (before after : Course) : Type 0 where
  pub found_is : turn.found ≡ before.notes
  pub written_is : after.written ≡ before.written ++ written_in turn
  pub notes_are : AreNoted turn.now most (before.notes ++ map (λ e. e.note) (written_in turn)) after.notes
  pub has_room : length after.notes < most

-- one turn after another
abbrev pub Follow : ℕ → List Turn → ℕ → Course → Course → Type 0
Follow most [] since before after = before ≡ after
Follow most (turn ∷ more) since before after =
    (next : Course) × IsTimely since turn × IsTurn most turn before next × Follow most more turn.now next after

abbrev pub asked_in : List Turn → List Edit
asked_in turns = flat_map (λ turn. flat_map (counted (is_late turn)) turn.changes) turns

-- the edit that was written last of a key, or of a directory above it: what it says stands
abbrev pub standing : List ℕ → List Edit → Option Edit
standing key [] = None
standing key (e ∷ more) = option_or (standing key more) (if covers e.note.path key then Some e else None)

-- something stands at the key that is no older
abbrev pub IsNoLater : List ℕ → List Edit → Edit → Type 0
IsNoLater key written e = (last : Edit) × (standing key written ≡ Some last) × (e.note.when ≤ last.note.when)

-- law: what stands at a key is no older than anything that was to be written there, but for what went with an overtaken edit of the
-- same change
abbrev pub LatestStands : Type 0
LatestStands = (most : ℕ) (turns : List Turn) (course : Course) (key : List ℕ) → Follow most turns 0 no_course course →
    AllByRecursion (λ e. IsTrue (covers e.note.path key) → IsNoLater key course.written e) (asked_in turns)

-- law: of a change by itself, of one edit, that is each
abbrev pub OneCounts : Type 0
OneCounts = (late : Edit → Bool) (e : Edit) → counted late (e ∷ []) ≡ e ∷ []

-- law: of a change all edits are written, or none is
abbrev pub IsWhole : Type 0
IsWhole = (late : Edit → Bool) (change : List Edit) → (whole late change ≡ change) ⊎ (whole late change ≡ [])
