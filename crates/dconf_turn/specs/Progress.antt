-- How far a turn came: what holds of the folder at each state. It is what the proof keeps, and no promise of its own.
use Rattle.std.specs.Prelude.{ℕ, ◌≡◌, ◌≢◌, ◌≤◌, ◌<◌, ◌⊎◌, ◌+◌, true, false, List, length, take, Option, Some, None, IsTrue}
use Rattle.dconf_model.specs.Folders.{Event, files_made, file_of, content, is_synced, StoodFor, MayLeave, MayHaveLeft, Grows}
use Rattle.dconf_model.specs.Replacing.{new_name}
use Rattle.dconf_turn.specs.declared.turn.Turn.{Turn}
use Rattle.dconf_turn.specs.declared.turn.State.{State}
use Rattle.dconf_turn.specs.declared.turn.State.TheVariants.{Locking, Reading, Making, Creating, Writing, Syncing, SettingAside, Exchanging, Renaming, SyncingFolder, Removing, Settling, Noting, Unlocking, Over}
use Rattle.dconf_turn.specs.declared.step.Step.TheVariants.{Lock}
use Rattle.dconf_turn.specs.declared.step.Outcome.TheVariants.{Kept}
use Rattle.dconf_turn.specs.declared.step.Answer.{Answer}
use Rattle.dconf_turn.specs.Jobs.{Job, IsFreeFor, IsOwn, IsLockApart}
use Rattle.dconf_turn.specs.Sayings.{Says}
use Rattle.dconf_turn.specs.Hosts.{DidStep, IsLockMade}
use Rattle.dconf_turn.specs.Steps.{step_of, steps_left, KnowsAfter, IsSaid, GoesOn, Follows, EndsWell, IsDone, IsRefusal}

-- since then nothing was touched but names of its own, and new files
pub record Apart (old es : List Event) (own : List ℕ → Type 0) : Type 0 where
  pub grown : Grows old es
  pub count : files_made old ≤ files_made es
  pub files : (file : ℕ) → file < files_made old → content es file ≡ content old file
  pub synced : (file : ℕ) → file < files_made old → is_synced es file ≡ is_synced old file
  pub names : (other : List ℕ) → ¬ own other → file_of es other ≡ file_of old other
  pub stood : (other : List ℕ) (file : Option ℕ) → ¬ own other → StoodFor es other file → StoodFor old other file
  pub moments : (other : List ℕ) (c : Option (List ℕ)) → ¬ own other → MayHaveLeft es (length old) other c → MayLeave old other c

-- one of them is a new file's, which holds these bytes
pub record Holds (old es : List Event) (own : List ℕ → Type 0) (new bytes : List ℕ) : Type 0 where
  pub apart : Apart old es own
  pub number : ℕ
  pub number_is : file_of es new ≡ Some number
  pub is_new : files_made old ≤ number
  pub bytes_are : content es number ≡ bytes

-- and they are all on the disk
pub record Staged (old es : List Event) (own : List ℕ → Type 0) (new bytes : List ℕ) : Type 0 where
  pub holds : Holds old es own new bytes
  pub synced : is_synced es holds.number ≡ true

-- the name is that file's
pub record Placed (old now : List Event) (own : List ℕ → Type 0) (name bytes : List ℕ) : Type 0 where
  pub grown : Grows old now
  pub number : ℕ
  pub number_is : file_of now name ≡ Some number
  pub bytes_are : content now number ≡ bytes
  pub is_synced_now : is_synced now number ≡ true
  pub files : (file : ℕ) → file < files_made old → content now file ≡ content old file
  pub synced : (file : ℕ) → file < files_made old → is_synced now file ≡ is_synced old file
  pub names : (other : List ℕ) → other ≢ name → ¬ own other → file_of now other ≡ file_of old other
  pub crash : (c : Option (List ℕ)) → MayHaveLeft now (length old) name c → MayLeave old name c ⊎ (c ≡ Some bytes)
  pub others : (other : List ℕ) (c : Option (List ℕ)) → other ≢ name → ¬ own other → MayHaveLeft now (length old) other c → MayLeave old other c

-- a name that no other file had stands for the old file
abbrev pub IsAsideAt : Job → List Event → List Event → Type 0
IsAsideAt job old now = (aside : List ℕ) × IsFreeFor job old aside × (file_of now aside ≡ file_of old job.name)

-- nothing was done, but perhaps the lock's file made
abbrev pub IsEarly : Job → List Event → List Event → Type 0
IsEarly job old now = (now ≡ old) ⊎ IsLockMade job.lock old now

-- the new name is untouched, or has no file, unless the host could not remove it
abbrev pub IsCleared : Turn → Job → List Event → List Event → Type 0
IsCleared t job old now = (file_of now (new_name job.name) ≡ file_of old (new_name job.name)) ⊎ ((file_of now (new_name job.name) ≡ None) ⊎ IsTrue t.leaves_new)

abbrev pub StandsAt : State → Turn → Job → List Event → List Event → Type 0
StandsAt Locking t job old now = now ≡ old
StandsAt Reading t job old now = IsEarly job old now
StandsAt Making t job old now = IsEarly job old now
StandsAt Creating t job old now = IsEarly job old now × (t.len ≡ length job.bytes)
StandsAt Writing t job old now = Holds old now (IsOwn t.keeps job old) (new_name job.name) (take t.at job.bytes) × (t.len ≡ length job.bytes) × (t.at ≤ t.len)
StandsAt Syncing t job old now = Holds old now (IsOwn t.keeps job old) (new_name job.name) job.bytes
StandsAt SettingAside t job old now = Staged old now (IsOwn t.keeps job old) (new_name job.name) job.bytes × IsTrue t.keeps
StandsAt Exchanging t job old now = Staged old now (IsOwn t.keeps job old) (new_name job.name) job.bytes × IsTrue t.keeps
StandsAt Renaming t job old now = Staged old now (IsOwn t.keeps job old) (new_name job.name) job.bytes × (IsTrue t.keeps → IsAsideAt job old now)
StandsAt SyncingFolder t job old now =
    Placed old now (IsOwn t.keeps job old) job.name job.bytes × (file_of now (new_name job.name) ≡ None) × (IsTrue t.keeps → IsAsideAt job old now)
StandsAt Removing t job old now = Says t.keeps t.outcome job old now
StandsAt Settling t job old now = IsEarly job old now
StandsAt Noting t job old now = Says t.keeps t.outcome job old now × IsCleared t job old now
StandsAt Unlocking t job old now = Says t.keeps t.outcome job old now × IsCleared t job old now
StandsAt Over t job old now = Says t.keeps t.outcome job old now × IsCleared t job old now

abbrev pub Stands : Turn → Job → List Event → List Event → Type 0
Stands t job old now = StandsAt t.state t job old now

-- nothing is done yet
pub record IsBegun (t : Turn) : Type 0 where
  pub first : step_of t ≡ Lock
  pub keeps : t.keeps ≡ false
  pub leaves : t.leaves_new ≡ false
  pub said : t.outcome ≡ Kept 0
  pub stands : (job : Job) (old : List Event) → Stands t job old old
  pub left : (size : ℕ) → steps_left t size ≡ 11 + size

-- What became of a turn when a step's answer was given, whatever the answer was.
pub record IsAnswered (t : Turn) (answer : Answer) (u : Turn) : Type 0 where
  -- it stands at what the step made of the folder
  pub stands : (job : Job) (old es now : List Event) → IsLockApart job → Stands t job old es → DidStep (step_of t) answer job es now → Stands u job old now
  -- fewer steps are left
  pub fewer : (job : Job) (old es now : List Event) → Stands t job old es → DidStep (step_of t) answer job es now →
      IsDone (step_of t) ⊎ (steps_left u (length job.bytes) < steps_left t (length job.bytes))
  pub order : Follows (step_of t) (step_of u)
  pub on : GoesOn t (step_of t) answer (step_of u)
  pub said : IsSaid (step_of t) answer t.outcome u.outcome
  pub ends : EndsWell (step_of t) answer (step_of u)
  pub knows : KnowsAfter (step_of t) answer t u
  -- the new file is left only where the host could not remove it
  pub leaves : IsTrue u.leaves_new → IsTrue t.leaves_new ⊎ IsRefusal (step_of t) answer
