-- Which edits are left out: those that others overtook, with all that were to be made together with them.
use Rattle.std.specs.Prelude.{◌≡◌, ◌≤◌, ◌%◌, ℕ, Bool, false, List, IsTrue, nat_lt, not, ◌&&◌, ◌==◌}
use Rattle.std.specs.List.{AllByRecursion, list_any, list_all}
use Rattle.std.specs.Str.{bytes_eq}
use Rattle.dconf_model.specs.Locks.{covers}
use Rattle.dconf_times.specs.Noted.{is_among}
use Rattle.dconf_times.specs.Times.{Note, is_known, is_overtaken}
use Rattle.dconf_times.specs.declared.leaving.DconfdbAsked.{DconfdbAsked}

-- A time that is no set's own: whoever wrote the file noted nothing, and wrote it then. It may be too late.
abbrev pub is_guess : ℕ → Bool
is_guess when = when % 2 == 1

-- it was seen that others changed the path after the edit was asked for
abbrev pub has_seen : List Note → DconfdbAsked → Bool
has_seen seen edit = list_any (λ s. bytes_eq s.path edit.path.now && nat_lt edit.when s.when) seen

-- its program looked before the edit was asked for, and the same is there
abbrev pub is_as_before : DconfdbAsked → Bool
is_as_before edit = edit.has_looked && (edit.was == edit.is)

-- its program has seen the path as it is since before the edit was asked for
abbrev pub knows_better : List Note → DconfdbAsked → Bool
knows_better seen edit = is_as_before edit && not (has_seen seen edit)

abbrev pub is_guess_of : DconfdbAsked → Note → Bool
is_guess_of edit note = is_guess note.when && bytes_eq note.path edit.path.now

-- the note says that the path, or a directory above it, was set after the edit was asked for
abbrev pub is_later : ℕ → DconfdbAsked → Note → Bool
is_later now edit note = (is_known now note && covers note.path edit.path.now) && nat_lt edit.when note.when

-- and the program doesn't know better
abbrev pub overtakes : ℕ → Bool → DconfdbAsked → Note → Bool
overtakes now knows edit note = is_later now edit note && not (is_guess_of edit note && knows)

-- What this program's last write may have left is there by itself.
abbrev pub is_late : ℕ → List Note → List Note → DconfdbAsked → Bool
is_late now notes seen edit = not edit.is_own && list_any (overtakes now (knows_better seen edit) edit) notes

-- an edit is left out where one of its change is late
abbrev pub is_left : (DconfdbAsked → Bool) → List DconfdbAsked → DconfdbAsked → Bool
is_left late edits edit = list_any (λ other. (other.change == edit.change) && late other) edits

-- ---- the law

-- it is as late as each note of its path, or of a directory above it, that is no guess
abbrev pub IsNewest : ℕ → List Note → DconfdbAsked → Type 0
IsNewest now notes edit =
    (note : Note) → IsTrue (is_among note notes) → IsTrue (is_known now note) → IsTrue (covers note.path edit.path.now) → is_guess note.when ≡ false →
    note.when ≤ edit.when

-- each note that is later is a guess of its path
abbrev pub IsOnlyGuessed : ℕ → List Note → DconfdbAsked → Type 0
IsOnlyGuessed now notes edit = IsTrue (list_all (λ note. not (is_later now edit note && not (is_guess_of edit note))) notes)

pub record IsLeftOutWell (now : ℕ) (notes seen : List Note) (edits : List DconfdbAsked) : Type 0 where
  -- no older edit is written over a newer one that is noted
  pub newest : AllByRecursion (λ edit. is_left (is_late now notes seen) edits edit ≡ false → edit.is_own ≡ false → IsNewest now notes edit) edits
  -- a guess overtakes nothing of a program that knows better
  pub guessed : (edit : DconfdbAsked) → IsTrue (knows_better seen edit) → IsOnlyGuessed now notes edit → is_late now notes seen edit ≡ false
  -- the edits of a change are all written, or none is
  pub whole : (edit other : DconfdbAsked) → edit.change ≡ other.change → is_left (is_late now notes seen) edits edit ≡ is_left (is_late now notes seen) edits other
  -- without guesses they are late as `the_latest_stands` has it
  pub noted : (edit : DconfdbAsked) → list_any (λ note. is_guess note.when) notes ≡ false → edit.is_own ≡ false →
      is_late now notes seen edit ≡ is_overtaken now edit.path.now edit.when notes

abbrev pub NoOlderWins : Type 0
NoOlderWins = (now : ℕ) (notes seen : List Note) (edits : List DconfdbAsked) → IsLeftOutWell now notes seen edits
