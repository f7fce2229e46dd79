-- What a program of runs gives, and what is left by runs some of which a crash stops.
use Rattle.std.specs.Prelude.{◌≡◌, ◌⊎◌, ◌++◌, ℕ, List, [], ◌∷◌, false, Option, Some, None}
use Rattle.std.specs.List.{AllByRecursion}
use Rattle.dconf_model.specs.Profiles.{Database, database_file}
use Rattle.dconf_model.specs.Sources.{Given}
use Rattle.dconf_model.specs.Changes.{Change}
use Rattle.dconf_model.specs.Folders.{Event, MayLeave, read_content}
use Rattle.dconf_model.specs.Commands.{Command}
use Rattle.dconf_model.specs.Reads.{Content}
use Rattle.dconf_model.specs.Outcomes.{Output}
use Rattle.dconf_model.specs.Runs.{NoMemory}
use Rattle.dconf_model.specs.Stores.{OwnValues, own_after}
use Rattle.dconf_model.specs.Programs.{AreApart, FolderHolds, IsChangeOf, IsQuestion, OnlyReads, Prints, RanInTurn, Run, asked_change, if_done}
use Rattle.dconf_model.specs.Survivals.{AskedCommand, AreKept, AreSettled, Attempt as Tried, CameInTurn, FileHolds, RunEnd, asked_changes}
use Rattle.command_words.specs.Commands.{command_of}
use Rattle.dconf_runs.specs.declared.request.Request.{Request}
use Rattle.dconf_runs.specs.declared.request.Ended.{Ended}
use Rattle.dconf_model.specs.Bytes.{MaybeBytes}
use Rattle.dconf_model.specs.Survivals.RunEnd.{ended, stopped, crashed}
use Rattle.dconf_runs.specs.declared.attempt.Attempt.{Attempt}
use Rattle.dconf_runs.specs.declared.attempt.End.{End}
use Rattle.dconf_runs.specs.declared.attempt.End.TheVariants.{Whole, Stopped, Crashed}

abbrev pub asked_of : Request → AskedCommand
asked_of r = (command_of r.command, record { bytes = r.input.items; fails = false })

-- what a run left is its output
abbrev pub output_of : Ended → Output
output_of e = record { out = e.out.items; err = e.err.items; status = e.status }

-- a run of this command and its input, which left this
pub record IsRunOf (asked : AskedCommand) (left : Ended) (r : Run) : Type 0 where
  pub command_is : r.command ≡ asked.0
  pub input_is : r.input ≡ asked.1
  pub output_is : r.output ≡ output_of left

abbrev pub AreRunsOf : List AskedCommand → List Ended → List Run → Type 0
AreRunsOf [] [] [] = Unit {0}
AreRunsOf (asked ∷ more) (left ∷ lefts) (r ∷ runs) = IsRunOf asked left r × AreRunsOf more lefts runs
AreRunsOf _ _ _ = ⊥

-- one after another, in a folder that nothing else changes
abbrev pub HasRunInTurn : List Event → List AskedCommand → List Ended → List Event → Type 0
HasRunInTurn old asked lefts new = (runs : List Run) × AreRunsOf asked lefts runs × RanInTurn old runs new

-- the changes of those that answered 0
abbrev pub changes_done : List AskedCommand → List Ended → List Change
changes_done (asked ∷ more) (left ∷ lefts) = if_done left.status (asked_change asked.0 asked.1) ++ changes_done more lefts
changes_done _ _ = []

-- Where the folder stood, the first runs changed its first database or only read, and the last one reads the store: the last one
-- prints what rows, changes, locks and the profile give.
abbrev pub GivesWhatWasWritten : Content → List AskedCommand → List Ended → Command → Output → Type 0
GivesWhatWasWritten content earlier lefts last output =
    (profile : List ℕ) (d : Database) (ds : List Database) (own : OwnValues) (gs : List Given) →
    AreApart profile d ds → FolderHolds content profile d ds own gs → AllByRecursion (λ asked. IsChangeOf profile asked.0 ⊎ OnlyReads asked.0) earlier →
    IsQuestion profile last →
    Prints (d ∷ ds) (own_after gs own (changes_done earlier lefts)) gs last output ⊎ NoMemory output

-- it came to its end and left this, or a crash stopped it or came before it
abbrev pub IsEndOf : End → Option Ended → RunEnd → Type 0
IsEndOf Whole (Some left) (ended output) = output ≡ output_of left
IsEndOf (Stopped call outcome) None stopped = Unit {0}
IsEndOf (Crashed outcome) None crashed = Unit {0}
IsEndOf _ _ _ = ⊥

-- the model's attempt of ours
pub record IsAttempt (attempt : Attempt) (left : Option Ended) (tried : Tried) : Type 0 where
  pub command_is : tried.command ≡ (asked_of attempt.request).0
  pub input_is : tried.input ≡ (asked_of attempt.request).1
  pub end_is : IsEndOf attempt.end left tried.end

abbrev pub AreAttempts : List Attempt → List (Option Ended) → List Tried → Type 0
AreAttempts [] [] [] = Unit {0}
AreAttempts (attempt ∷ more) (left ∷ lefts) (tried ∷ others) = IsAttempt attempt left tried × AreAttempts more lefts others
AreAttempts _ _ _ = ⊥

-- one after another, in a folder that nothing else changes
abbrev pub HaveComeInTurn : List Event → List Attempt → List (Option Ended) → List Event → Type 0
HaveComeInTurn old attempts lefts new = (tried : List Tried) × AreAttempts attempts lefts tried × CameInTurn old tried new

-- What is kept of them: some commands, in order. Of these the file says whatever a crash leaves of it, and the folder stands so.
pub record IsKeptOf (tried : List Tried) (new : List Event) (profile : List ℕ) (d : Database) (ds : List Database) (own : OwnValues)
    (gs : List Given) : Type 0 where
  pub left : (c : MaybeBytes) → MayLeave new (database_file d) c →
      (kept : List AskedCommand) × AreKept (database_file d) tried kept × FileHolds c (own_after gs own (asked_changes kept))
  pub found : (kept : List AskedCommand) × AreKept (database_file d) tried kept
      × FolderHolds (read_content new) profile d ds (own_after gs own (asked_changes kept)) gs

-- Where the folder stood, and no crash changed it, and each command changes its first database.
abbrev pub NothingIsLostBy : List Event → List Attempt → List (Option Ended) → List Event → Type 0
NothingIsLostBy old attempts lefts new =
    (profile : List ℕ) (d : Database) (ds : List Database) (own : OwnValues) (gs : List Given) →
    AreApart profile d ds → FolderHolds (read_content old) profile d ds own gs → AreSettled old profile d ds →
    AllByRecursion (λ attempt. IsChangeOf profile (asked_of attempt.request).0) attempts →
    (tried : List Tried) × AreAttempts attempts lefts tried × IsKeptOf tried new profile d ds own gs
