-- What is seen of a store after turns of programs of any kind: of those that change the user's file by these calls, GSettings' module
-- among them, and of runs of the command.
use Rattle.std.specs.Prelude.{◌≡◌, ◌↔◌, ℕ, List, [], ◌∷◌, ◌++◌, Contains, IsTrue, Ok, Option, Some, None, map, nat_lt}
use Rattle.dconf_model.specs.Bytes.{MaybeBytes}
use Rattle.dconf_model.specs.Changes.{Change}
use Rattle.dconf_model.specs.Commands.{Command}
use Rattle.dconf_model.specs.Databases.{AreLayers}
use Rattle.dconf_model.specs.Folders.{Event, IsSettled, MayLeave, read_content}
use Rattle.dconf_model.specs.Layers.{Layers, child_names, is_locked, locks_below, origin, visible, without_user}
use Rattle.dconf_model.specs.Locks.{is_below}
use Rattle.dconf_model.specs.Paths.{first_part}
use Rattle.dconf_model.specs.Profiles.{Database, database_file, profile_of}
use Rattle.dconf_model.specs.Programs.{AreRead, IsChangeOf, asked_change, own_or_none}
use Rattle.dconf_model.specs.Reads.{Input, ReadResults, read_of}
use Rattle.dconf_model.specs.Reads.FileRead.{holds}
use Rattle.dconf_model.specs.Runs.{MayMake, ReadsFrom}
use Rattle.dconf_model.specs.Sources.{Given, last_value}
use Rattle.dconf_model.specs.Stores.{FilesGive, IsNamed, OwnValues, is_lock_given, level_given, number_given, own_after, value_given}
use Rattle.dconf_turn.specs.Jobs.{IsLockApart}
use Rattle.dconf_turn.specs.Survivals.{AreTurnsKept, CameInTurn, Drove, Happening}
use Rattle.dconf_turn.specs.declared.turn.Turn.{Turn}
use Rattle.dconfdb_calls.specs.declared.changes.DconfdbChange.{DconfdbChange}
use Rattle.dconfdb_calls.specs.Changed.{change_meant}
use Rattle.dconfdb_calls.specs.Turns.{MakesFile}

-- what a program has its turn for: changes by these calls, or a run of the command
pub data Asked : Type 0 where
  calls : List DconfdbChange → Asked
  runs : Command → Input → Asked

-- The profile names these databases, and a read of each gives that.
pub record Stands (es : List Event) (profile : List ℕ) (databases : List Database) (files : List MaybeBytes) : Type 0 where
  pub text : List ℕ
  pub profile_is : read_of (read_content es profile) ≡ holds text
  pub names : profile_of text ≡ Ok databases
  pub read : AreRead (read_content es) databases files

-- a run that changes the user's file makes this of that one, by what it read of such a folder
pub record RunMakes (profile : List ℕ) (d : Database) (ds : List Database) (others : List MaybeBytes) (old : MaybeBytes) (command : Command) (input : Input)
    (new : MaybeBytes) : Type 0 where
  pub changes : IsChangeOf profile command
  pub folder : List Event
  pub stands : Stands folder profile (d ∷ ds) (old ∷ others)
  pub reads : ReadResults
  pub given : ReadsFrom folder reads
  pub file : List ℕ
  pub makes : MayMake command input reads (database_file d) file
  pub new_is : new ≡ Some file

abbrev pub TurnMakes : List ℕ → Database → List Database → List MaybeBytes → MaybeBytes → Asked → MaybeBytes → Type 0
TurnMakes profile d ds others old (calls changes) new = MakesFile others old changes new
TurnMakes profile d ds others old (runs command input) new = RunMakes profile d ds others old command input new

-- the changes of all turns, one after another
abbrev pub changes_asked : List Asked → List Change
changes_asked [] = []
changes_asked (calls changes ∷ more) = map change_meant changes ++ changes_asked more
changes_asked (runs command input ∷ more) = asked_change command input ++ changes_asked more

-- All that is seen of a store is what these values of the user's own and the other databases give: each value, and the database that it is
-- from; what it would be without the user's; which paths are locked; what a directory has; and the locks below it.
pub record ShowsGiven (own : OwnValues) (gs : List Given) (l : Layers) : Type 0 where
  pub value : (path : List ℕ) → visible l path ≡ value_given path (own path) gs
  pub from : (path : List ℕ) → origin l path ≡ number_given path (own path) gs
  pub otherwise : (path : List ℕ) → visible (without_user l) path ≡ value_given path (own_or_none l.writable (own path)) gs
  pub locked : (path : List ℕ) → is_locked l path ≡ nat_lt 0 (level_given 1 gs path)
  pub children : (directory part : List ℕ) →
      Contains (child_names l directory) part ↔ ((rest : List ℕ) × IsNamed own gs (directory ++ rest) × (part ≡ first_part rest))
  pub locks : (directory lock : List ℕ) → Contains (locks_below l directory) lock ↔ (IsTrue (is_below lock directory) × IsTrue (is_lock_given gs lock))

-- law: whatever turns of whatever programs came, each whole, or cut off by a kill or a crash, and crashes between them, all that is seen is
-- what rows, locks, the changes of the turns that are kept, and the order of the databases give
abbrev pub MixedTurnsGiveAll : Type 0
MixedTurnsGiveAll =
    (profile : List ℕ) (d : Database) (ds : List Database) (others : List MaybeBytes) (lock : Option (List ℕ)) (old new : List Event)
    (happened : List (Happening Asked)) (c : MaybeBytes) (g : Given) (gs : List Given) →
    IsLockApart (record { name = database_file d; bytes = []; lock = lock }) → IsSettled old (database_file d) (read_content old (database_file d)) →
    FilesGive (read_content old (database_file d) ∷ others) (g ∷ gs) →
    CameInTurn (TurnMakes profile d ds others) (database_file d) lock old happened new → MayLeave new (database_file d) c →
    (kept : List Asked) × AreTurnsKept happened kept
    × ((l : Layers) → AreLayers (c ∷ others) l.layers → ShowsGiven (own_after gs (last_value g.values) (changes_asked kept)) gs l)

-- law: a turn that does nothing to the lock's file, as the command's, is one of those that may
abbrev pub UnlockedTurnsCount : Type 0
UnlockedTurnsCount =
    (u : Turn) (name bytes : List ℕ) (lock : Option (List ℕ)) (old new : List Event) → Drove u (record { name = name; bytes = bytes; lock = None }) old new →
    Drove u (record { name = name; bytes = bytes; lock = lock }) old new
