-- What the databases of a profile give, run by run: runs that change the first one, and among them
-- `compile` and `repair`, which put a file in place that may be one of them.
use Rattle.std.specs.Prelude.{◌≡◌, ◌≢◌, ◌⊎◌, ℕ, zero, suc, List, [], ◌∷◌}
use Rattle.std.specs.List.{AllByRecursion}
use Rattle.dconf_model.specs.Bytes.{MaybeBytes}
use Rattle.dconf_model.specs.Sources.{Given}
use Rattle.dconf_model.specs.Profiles.{Database, database_file}
use Rattle.dconf_model.specs.Changes.{Change}
use Rattle.dconf_model.specs.Folders.{Event, MayLeave, read_content}
use Rattle.dconf_model.specs.Replacing.{new_name}
use Rattle.dconf_model.specs.Commands.{Command}
use Rattle.dconf_model.specs.Commands.Command.{compile, repair}
use Rattle.dconf_model.specs.Reads.{Content, Input}
use Rattle.dconf_model.specs.FaultTexts.{device_text}
use Rattle.dconf_model.specs.Outcomes.{Output, refused_output}
use Rattle.dconf_model.specs.Runs.{NoMemory, RanCalmly}
use Rattle.dconf_model.specs.Stores.{OwnValues, own_after}
use Rattle.dconf_model.specs.Programs.{AreApart, FolderHolds, IsApart, IsChangeOf, IsPut, IsQuestion, OnlyReads, Prints, RanInTurn, Run, SalvageGives, SourcesGive, asked_change, given_compiled, own_compiled}
use Rattle.dconf_model.specs.Survivals.{AreSettled, Attempt, CameInTurn, CameTo, FileHolds, MayBeKept, MayBeLeftOut}
use Rattle.dconf_model.specs.Survivals.RunEnd.{ended}

-- the first database's own values, and what each of the others gives
pub record Standing : Type 0 where
  pub own : OwnValues
  pub others : List Given

abbrev pub FolderStands : Content → List ℕ → Database → List Database → Standing → Type 0
FolderStands content profile d ds s = FolderHolds content profile d ds s.own s.others

abbrev pub with_changes : List Change → Standing → Standing
with_changes changes s = record { own = own_after s.others s.own changes; others = s.others }

-- a file was put in place that gives this
abbrev pub with_put : List ℕ → Given → Database → List Database → Standing → Standing
with_put out g d ds s = record { own = own_compiled out g d s.own; others = given_compiled out g ds s.others }

-- ---- one command

-- the file that a command puts in place
pub data PutsFile : Command → List ℕ → Type 0 where
  compiling : (out : List ℕ) (lock_names : List (List ℕ)) (names : List (List ℕ)) → PutsFile (compile out lock_names names) out
  repairing : (file out : List ℕ) → PutsFile (repair file out) out

-- and what it gives, by the files of a folder
pub data PutsRows (content : Content) : Command → List ℕ → Given → Type 0 where
  compiling : (out : List ℕ) (lock_names : List (List ℕ)) (names : List (List ℕ)) (g : Given) → SourcesGive content lock_names names g →
      PutsRows content (compile out lock_names names) out g
  repairing : (file out : List ℕ) (g : Given) → SalvageGives content file g → PutsRows content (repair file out) out g

-- What a command makes of it that is done: it puts a file in place, or makes the change that it asks
-- for, if it asks for one.
abbrev pub StepsTo : Content → Database → List Database → Command → Input → Standing → Standing → Type 0
StepsTo content d ds command input s t =
    ((out : List ℕ) × (g : Given) × PutsRows content command out g × (t ≡ with_put out g d ds s))
    ⊎ (((out : List ℕ) → ¬ PutsFile command out) × (t ≡ with_changes (asked_change command input) s))

-- one that is refused makes nothing
abbrev pub StepsBy : ℕ → Content → Database → List Database → Command → Input → Standing → Standing → Type 0
StepsBy zero content d ds command input s t = StepsTo content d ds command input s t
StepsBy (suc status) content d ds command input s t = t ≡ s

-- a file that is not the profile, and not the new name of a database
pub record MayPut (profile : List ℕ) (databases : List Database) (out : List ℕ) : Type 0 where
  pub profile_is : IsApart out profile
  pub databases_are : AllByRecursion (λ d. database_file d ≢ new_name out) databases

-- It changes the first database of this profile, or no file, or puts such a file in place.
abbrev pub MayRunOver : List ℕ → List Database → Command → Type 0
MayRunOver profile databases command =
    (IsChangeOf profile command ⊎ OnlyReads command) ⊎ ((out : List ℕ) × PutsFile command out × MayPut profile databases out)

-- ---- runs one after another

-- in a folder that nothing else changes
abbrev pub StandsInTurn : Database → List Database → List Event → List Run → List Event → Standing → Standing → Type 0
StandsInTurn d ds old [] new s t = (new ≡ old) × (t ≡ s)
StandsInTurn d ds old (r ∷ more) new s t =
    (mid : List Event) × (u : Standing) × RanCalmly r.command r.input old mid r.output
    × StepsBy r.output.status (read_content old) d ds r.command r.input s u × StandsInTurn d ds mid more new u t

-- law: after them the folder stands so
abbrev pub RunsAreKept : Type 0
RunsAreKept =
    (profile : List ℕ) (d : Database) (ds : List Database) (s : Standing) (runs : List Run) (old new : List Event) →
    AreApart profile d ds → FolderStands (read_content old) profile d ds s → AllByRecursion (λ r. MayRunOver profile (d ∷ ds) r.command) runs →
    RanInTurn old runs new →
    (t : Standing) × StandsInTurn d ds old runs new s t × FolderStands (read_content new) profile d ds t

-- law, the whole of it: a run after them that reads the store prints what it gives then
abbrev pub WholeProgramGives : Type 0
WholeProgramGives =
    (profile : List ℕ) (d : Database) (ds : List Database) (s : Standing) (runs : List Run)
    (command : Command) (input : Input) (old mid new : List Event) (output : Output) →
    AreApart profile d ds → FolderStands (read_content old) profile d ds s → AllByRecursion (λ r. MayRunOver profile (d ∷ ds) r.command) runs →
    RanInTurn old runs mid → IsQuestion profile command → RanCalmly command input mid new output →
    (t : Standing) × StandsInTurn d ds old runs mid s t × (Prints (d ∷ ds) t.own t.others command output ⊎ NoMemory output)

-- law: where a file was put in place, no crash changes the profile or a database, if none did before
abbrev pub PutIsSettled : Type 0
PutIsSettled =
    (profile : List ℕ) (d : Database) (ds : List Database) (out : List ℕ) (g : Given) (old new : List Event) →
    MayPut profile (d ∷ ds) out → IsPut old new out g → AreSettled old profile d ds → AreSettled new profile d ds

-- ---- attempts one after another, some at fault, some stopped by a crash, and crashes between them

-- What it puts in place is so or not: its device doesn't fail there, after which a crash might still
-- change it back.
abbrev pub MayBeTried : List ℕ → List Database → Attempt → Type 0
MayBeTried profile databases a =
    (IsChangeOf profile a.command ⊎ OnlyReads a.command)
    ⊎ ((out : List ℕ) × PutsFile a.command out × MayPut profile databases out × (a.end ≢ ended (refused_output (device_text out))))

-- It is kept, or left out, or only reads.
abbrev pub MayStepTo : Content → Database → List Database → Attempt → Standing → Standing → Type 0
MayStepTo content d ds a s t =
    (MayBeKept (database_file d) a.end × StepsTo content d ds a.command a.input s t)
    ⊎ ((MayBeLeftOut a.end × (t ≡ s)) ⊎ (OnlyReads a.command × (t ≡ s)))

abbrev pub MayStandInTurn : Database → List Database → List Event → List Attempt → List Event → Standing → Standing → Type 0
MayStandInTurn d ds old [] new s t = (new ≡ old) × (t ≡ s)
MayStandInTurn d ds old (a ∷ more) new s t =
    (mid : List Event) × (u : Standing) × CameTo a.command a.input a.end old mid
    × MayStepTo (read_content old) d ds a s u × MayStandInTurn d ds mid more new u t

-- law: whatever a crash leaves after them is what those make that are kept, in order
abbrev pub NothingIsLostOfAll : Type 0
NothingIsLostOfAll =
    (profile : List ℕ) (d : Database) (ds : List Database) (s : Standing) (attempts : List Attempt) (old new : List Event) (c : MaybeBytes) →
    AreApart profile d ds → FolderStands (read_content old) profile d ds s → AreSettled old profile d ds →
    AllByRecursion (MayBeTried profile (d ∷ ds)) attempts → CameInTurn old attempts new → MayLeave new (database_file d) c →
    (t : Standing) × MayStandInTurn d ds old attempts new s t × FileHolds c t.own

-- law: and a run after them finds the folder so
abbrev pub NextRunFindsAllOf : Type 0
NextRunFindsAllOf =
    (profile : List ℕ) (d : Database) (ds : List Database) (s : Standing) (attempts : List Attempt) (old new : List Event) →
    AreApart profile d ds → FolderStands (read_content old) profile d ds s → AreSettled old profile d ds →
    AllByRecursion (MayBeTried profile (d ∷ ds)) attempts → CameInTurn old attempts new →
    (t : Standing) × MayStandInTurn d ds old attempts new s t × FolderStands (read_content new) profile d ds t
