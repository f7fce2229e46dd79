-- A turn in a store of either kind: our own, in which `user-db:NAME` is the file NAME.user, and dconf's, in which it is NAME.
use Rattle.std.specs.Prelude.{◌≡◌, ℕ, List, Bool, false, None, if◌then◌else◌}
use Rattle.dconf_model.specs.Folders.{Event}
use Rattle.dconf_model.specs.Profiles.{file_of_kind}
use Rattle.dconf_model.specs.Profiles.Kind.{user_db}
use Rattle.dconf_model.specs.Replacing.{Replaced, MaybeReplaced}
use Rattle.dconf_turn.specs.Jobs.{Job}
use Rattle.dconf_turn.specs.Survivals.{Drove}
use Rattle.dconf_turn.specs.declared.turn.Turn.{Turn}
use Rattle.dconf_found.specs.Renamed.{Names, held_events, no_names, users_names}

-- the name by which the file is shown, and that which it has in the folder
abbrev pub users_file : List ℕ → List ℕ
users_file name = file_of_kind user_db name

abbrev pub held_file : Bool → List ℕ → List ℕ
held_file in_place name = if in_place then name else users_file name

abbrev pub names_in_kind : Bool → List ℕ → Names
names_in_kind in_place name = if in_place then users_names name else no_names

-- what is done to the folder that has the files, by what is done to the one that is shown
abbrev pub held_in : Bool → List ℕ → List Event → List Event
held_in in_place name es = held_events (names_in_kind in_place name) es

-- to put these bytes there; nothing is set aside, and the lock is elsewhere
abbrev pub users_job : List ℕ → List ℕ → Job
users_job name bytes = record { name = users_file name; bytes = bytes; lock = None }

-- What holds of the file that is shown, holds of the one in the folder.
pub record IsWholeInKind (in_place : Bool) (name bytes : List ℕ) (old now : List Event) : Type 0 where
  -- replaced: a crash leaves the new bytes
  pub made : Replaced old now (users_file name) bytes → Replaced (held_in in_place name old) (held_in in_place name now) (held_file in_place name) bytes
  -- the device failed: a crash at any moment leaves the old bytes or the new ones
  pub failed : MaybeReplaced old now (users_file name) bytes → MaybeReplaced (held_in in_place name old) (held_in in_place name now) (held_file in_place name) bytes
  -- and so it does where the turn was cut off after any step
  pub cut : (u : Turn) → Drove u (users_job name bytes) old now → u.keeps ≡ false
      → MaybeReplaced (held_in in_place name old) (held_in in_place name now) (held_file in_place name) bytes
  -- whatever was done to the folder before
  pub before : (es : List Event) → (shown : List Event) × (held_in in_place name shown ≡ es)

abbrev pub TurnIsWholeInEitherKind : Type 0
TurnIsWholeInEitherKind = (in_place : Bool) (name bytes : List ℕ) (old now : List Event) → IsWholeInKind in_place name bytes old now
