-- What is left of the user's database by runs one after another, some of them at fault, and some
-- stopped by a crash at any moment.
use Rattle.std.specs.Prelude.{◌≡◌, ◌⊎◌, ℕ, List, [], ◌∷◌, ◌++◌, length, option_and_then}
use Rattle.std.specs.List.{AllByRecursion}
use Rattle.std.specs.FinMap.{get}
use Rattle.dconf_model.specs.Bytes.{MaybeBytes}
use Rattle.dconf_model.specs.Settings.{Settings}
use Rattle.dconf_model.specs.Values.{held_value}
use Rattle.dconf_model.specs.FaultTexts.{device_text}
use Rattle.dconf_model.specs.Profiles.{Database, database_file}
use Rattle.dconf_model.specs.Sources.{Given}
use Rattle.dconf_model.specs.Databases.{IsLayer}
use Rattle.dconf_model.specs.Changes.{Change}
use Rattle.dconf_model.specs.Folders.{Event, MayLeave, MayHaveLeft, IsSettled, read_content}
use Rattle.dconf_model.specs.Commands.{Command}
use Rattle.dconf_model.specs.Reads.{Input}
use Rattle.dconf_model.specs.Outcomes.{Output, refused_output}
use Rattle.dconf_model.specs.Runs.{Ran}
use Rattle.dconf_model.specs.Stores.{OwnValues, own_after}
use Rattle.dconf_model.specs.Programs.{FolderHolds, AreApart, IsChangeOf, asked_change}

-- ---- what came of runs

-- it came to its end and wrote this, or a crash stopped it, or a crash came before it began
pub data RunEnd : Type 0 where
  ended : Output → RunEnd
  stopped : RunEnd
  crashed : RunEnd

pub record Attempt : Type 0 where
  pub command : Command
  pub input : Input
  pub end : RunEnd

-- A crash came at some moment since old. Under each name is what it might have left then, and no
-- other crash changes it.
pub record CrashedSince (old cut new : List Event) : Type 0 where
  pub left : (name : List ℕ) → MayHaveLeft cut (length old) name (read_content new name)
  pub settled : (name : List ℕ) → IsSettled new name (read_content new name)

-- what clause `ran` of `run` gives, of a run that came to its end and of one that would have; a
-- crash while nothing ran leaves what it may
abbrev pub CameTo : Command → Input → RunEnd → List Event → List Event → Type 0
CameTo command input (ended output) old new = Ran command input old new output
CameTo command input stopped old new =
    (cut : List Event) × (output : Output) × Ran command input old cut output × CrashedSince old cut new
CameTo command input crashed old new = CrashedSince old old new

-- one after another, in a folder that nothing else changes
abbrev pub CameInTurn : List Event → List Attempt → List Event → Type 0
CameInTurn old [] new = new ≡ old
CameInTurn old (a ∷ more) new = (mid : List Event) × CameTo a.command a.input a.end old mid × CameInTurn mid more new

-- ---- which of them are kept

-- a command with its input
abbrev pub AskedCommand : Type 0
AskedCommand = Command × Input

-- One that answered 0 is kept. One that says that the device failed at the user's file may be, and
-- so may one that was stopped.
abbrev pub MayBeKept : List ℕ → RunEnd → Type 0
MayBeKept user (ended output) = (output.status ≡ 0) ⊎ (output ≡ refused_output (device_text user))
MayBeKept user stopped = Unit {0}
MayBeKept user crashed = ⊥

-- one that answered 1 may be left out, or one that didn't come to its end
abbrev pub MayBeLeftOut : RunEnd → Type 0
MayBeLeftOut (ended output) = output.status ≡ 1
MayBeLeftOut stopped = Unit {0}
MayBeLeftOut crashed = Unit {0}

-- the commands that are kept, in order
pub data AreKept (user : List ℕ) : List Attempt → List AskedCommand → Type 0 where
  no_attempt : AreKept user [] []
  keeps : (a : Attempt) (attempts : List Attempt) (kept : List AskedCommand) → MayBeKept user a.end → AreKept user attempts kept →
      AreKept user (a ∷ attempts) ((a.command, a.input) ∷ kept)
  leaves_out : (a : Attempt) (attempts : List Attempt) (kept : List AskedCommand) → MayBeLeftOut a.end → AreKept user attempts kept →
      AreKept user (a ∷ attempts) kept

abbrev pub asked_changes : List AskedCommand → List Change
asked_changes [] = []
asked_changes (asked ∷ more) = asked_change asked.0 asked.1 ++ asked_changes more

-- ---- laws

-- a crash changes neither the profile nor a database
pub record AreSettled (es : List Event) (profile : List ℕ) (d : Database) (ds : List Database) : Type 0 where
  pub profile_is : IsSettled es profile (read_content es profile)
  pub user : IsSettled es (database_file d) (read_content es (database_file d))
  pub others : AllByRecursion (λ other. IsSettled es (database_file other) (read_content es (database_file other))) ds

-- the file is a database with these values, or missing and they are none
abbrev pub FileHolds : MaybeBytes → OwnValues → Type 0
FileHolds item own = (s : Settings) × IsLayer item s × ((path : List ℕ) → option_and_then held_value (get s.values path) ≡ own path)

-- law: whatever a crash leaves after them is what the commands make that are kept, in order
abbrev pub NothingIsLost : Type 0
NothingIsLost =
    (profile : List ℕ) (d : Database) (ds : List Database) (own : OwnValues) (gs : List Given) (attempts : List Attempt) (old new : List Event) (c : MaybeBytes) →
    AreApart profile d ds → FolderHolds (read_content old) profile d ds own gs → AreSettled old profile d ds →
    AllByRecursion (λ a. IsChangeOf profile a.command) attempts → CameInTurn old attempts new → MayLeave new (database_file d) c →
    (kept : List AskedCommand) × AreKept (database_file d) attempts kept × FileHolds c (own_after gs own (asked_changes kept))

-- law: and a run after them finds the folder so
abbrev pub NextRunFindsAll : Type 0
NextRunFindsAll =
    (profile : List ℕ) (d : Database) (ds : List Database) (own : OwnValues) (gs : List Given) (attempts : List Attempt) (old new : List Event) →
    AreApart profile d ds → FolderHolds (read_content old) profile d ds own gs → AreSettled old profile d ds →
    AllByRecursion (λ a. IsChangeOf profile a.command) attempts → CameInTurn old attempts new →
    (kept : List AskedCommand) × AreKept (database_file d) attempts kept
    × FolderHolds (read_content new) profile d ds (own_after gs own (asked_changes kept)) gs
