-- What a turn notes: of itself, of the files that were left, and of what was set.
use Rattle.std.specs.Prelude.{◌≡◌, ◌⊎◌, ◌<◌, ◌≤◌, ◌==◌, ℕ, List, [], ◌∷◌, length, drop, if◌then◌else◌}
use Rattle.dconf_notes.specs.Records.{Noted, IsFile, file_bytes}

-- of itself, that one of the other notes is of files
abbrev pub turn_note : ℕ → Noted
turn_note moment = record { path = []; when = moment; value = 1 }

-- of which the records stand where others have a path
abbrev pub left_note : ℕ → List ℕ → Noted
left_note now left = record { path = left; when = now; value = 0 }

abbrev pub turn_notes : ℕ → ℕ → List ℕ → List Noted → List Noted
turn_notes moment now left set = turn_note moment ∷ left_note now left ∷ set

-- ---- what is read of it

abbrev pub first_path : List Noted → List ℕ
first_path [] = []
first_path (note ∷ more) = note.path

-- the records of files: none where the turn says that there is no such note
abbrev pub left_in : List Noted → List ℕ
left_in [] = []
left_in (turn ∷ more) = if turn.value == 0 then [] else first_path more

-- what was set comes behind those
abbrev pub set_in : List Noted → List Noted
set_in [] = []
set_in (turn ∷ more) = drop turn.value more

-- So it is read of a file of notes. Of what is none, or longer than that, nothing is.
abbrev pub IsTurnRead : ℕ → List ℕ → List ℕ → List Noted → Type 0
IsTurnRead most bytes left set =
    ((notes : List Noted) × IsFile bytes notes × (left ≡ left_in notes) × (set ≡ set_in notes))
    ⊎ ((left ≡ []) × (set ≡ []) × ((most < length bytes) ⊎ ((notes : List Noted) → IsFile bytes notes → ⊥)))

-- law: what a turn notes is what the next one reads
abbrev pub TheNextTurnReads : Type 0
TheNextTurnReads = (most moment now : ℕ) (left read : List ℕ) (set read_set : List Noted) → length (file_bytes (turn_notes moment now left set)) ≤ most
    → IsTurnRead most (file_bytes (turn_notes moment now left set)) read read_set → (read ≡ left) × (read_set ≡ set)
