-- What is seen of a store after turns of programs that change the user's file by these calls.
use Rattle.std.specs.Prelude.{◌≡◌, ℕ, List, [], ◌∷◌, ◌++◌, Option, Some, map}
use Rattle.dconf_model.specs.Bytes.{MaybeBytes}
use Rattle.dconf_model.specs.Changes.{Change}
use Rattle.dconf_model.specs.Databases.{AreLayers}
use Rattle.dconf_model.specs.Folders.{Event, IsSettled, MayLeave, read_content}
use Rattle.dconf_model.specs.Layers.{Layers, origin, visible}
use Rattle.dconf_model.specs.Sources.{Given, last_value}
use Rattle.dconf_model.specs.Stores.{FilesGive, OwnValues, StoreHolds, number_given, own_after, value_given}
use Rattle.dconf_turn.specs.Jobs.{IsLockApart}
use Rattle.dconf_turn.specs.Survivals.{AreTurnsKept, CameInTurn, Happening}
use Rattle.dconfdb_calls.specs.declared.changes.DconfdbChange.{DconfdbChange}
use Rattle.dconfdb_calls.specs.Changed.{IsChanged, change_meant}

-- a turn's changes make this file of that one, beside the files of the other databases
pub record MakesFile (others : List MaybeBytes) (old : MaybeBytes) (changes : List DconfdbChange) (new : MaybeBytes) : Type 0 where
  pub before : Layers
  pub opened : AreLayers (old ∷ others) before.layers
  pub file : List ℕ
  pub changed : IsChanged before changes file
  pub new_is : new ≡ Some file

-- the changes of all turns, one after another
abbrev pub changes_in : List (List DconfdbChange) → List Change
changes_in [] = []
changes_in (changes ∷ more) = map change_meant changes ++ changes_in more

-- however these files are opened, each path has the value that these values of the user's own and the other databases give it, and that
-- is from the database that gives it
abbrev pub GivesValues : MaybeBytes → List MaybeBytes → OwnValues → List Given → Type 0
GivesValues first others own gs =
    (l : Layers) → AreLayers (first ∷ others) l.layers → (path : List ℕ) →
    (visible l path ≡ value_given path (own path) gs) × (origin l path ≡ number_given path (own path) gs)

-- law: whatever turns and crashes came, each value is the one that rows, locks, the changes of the turns that are kept, and the order of
-- the databases give
abbrev pub TurnsGiveValues : Type 0
TurnsGiveValues =
    (others : List MaybeBytes) (name : List ℕ) (lock : Option (List ℕ)) (old new : List Event) (happened : List (Happening (List DconfdbChange)))
    (c : MaybeBytes) (g : Given) (gs : List Given) →
    IsLockApart (record { name = name; bytes = []; lock = lock }) → IsSettled old name (read_content old name) →
    FilesGive (read_content old name ∷ others) (g ∷ gs) → CameInTurn (MakesFile others) name lock old happened new → MayLeave new name c →
    (kept : List (List DconfdbChange)) × AreTurnsKept happened kept × GivesValues c others (own_after gs (last_value g.values) (changes_in kept)) gs

-- ---- words of private parts

-- however these files are opened, the first has its own values, and the others give so
abbrev pub HaveOwn : MaybeBytes → List MaybeBytes → OwnValues → List Given → Type 0
HaveOwn first others own gs = (l : Layers) → AreLayers (first ∷ others) l.layers → StoreHolds others own gs l
