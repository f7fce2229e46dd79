-- A turn that is driven on a folder, whose appends are whole.
use Rattle.std.specs.Prelude.{ℕ, ◌≡◌, ◌⊎◌, ◌+◌, ◌≤◌, ◌<◌, ◌++◌, Bool, true, false, List, ◌∷◌, Result, Ok, Err, None, codes, IsTrue}
use Rattle.dconf_model.specs.Folders.{Event, file_of}
use Rattle.dconf_model.specs.Folders.Event.{create, append, rename}
use Rattle.dconf_model.specs.Replacing.{new_name}
use Rattle.dconf_turn.specs.Jobs.{Job}
use Rattle.dconf_turn.specs.Hosts.{DidStep}
use Rattle.dconf_turn.specs.Sayings.{IsWhole as IsWholeFile}
use Rattle.dconf_turn.specs.Steps.{place, step_of}
use Rattle.dconf_turn.specs.Survivals.{Drove}
use Rattle.dconf_turn.specs.declared.turn.Turn.{Turn}
use Rattle.dconf_folders.specs.declared.old.Old.{Old}
use Rattle.dconf_folders.specs.declared.old.Old.TheVariants.{Absent, Bits, SetAside}
use Rattle.dconf_turn.specs.declared.step.Outcome.{Outcome}
use Rattle.dconf_turn.specs.declared.step.Outcome.TheVariants.{Made}
use Rattle.dconf_turn.specs.declared.step.Step.{Step}
use Rattle.dconf_turn.specs.declared.step.Step.TheVariants.{Lock, Read, Make, Append, Sync, SetAside as StepSetAside, Exchange, Rename, SyncFolder, Remove, Settle, Note, Unlock, Done}
use Rattle.dconf_turn.specs.declared.step.Answer.{Answer}
use Rattle.dconf_turn.specs.declared.step.Answer.TheVariants.{Yes, No}
use Rattle.dconf_folders.specs.declared.fault.FolderFault.{FolderFault}
use Rattle.dconf_folders.specs.declared.fault.FolderFault.TheVariants.{Device}
use Rattle.dconf_folders.specs.Failures.{IsOneMore}
use Rattle.dconf_folders.specs.Staging.{staged_onto, settled_onto}

-- The lock is not taken here.
abbrev pub job_of : List ℕ → List ℕ → Job
job_of name bytes = record { name = name; bytes = bytes; lock = None }

-- the answer to a call, with the number that the step asks for
abbrev pub answer_of : Result (Unit {0}) FolderFault → ℕ → Answer
answer_of (Ok u) n = Yes n
answer_of (Err fault) n = No 1

abbrev pub result_of : Outcome → Result (Unit {0}) FolderFault
result_of Made = Ok tt
result_of outcome = Err Device

-- A turn was driven to its end, and the result is what it said: Ok if and only if the change is made. What was set aside in a folder behind this one
-- was not done to this one.
pub record IsDriven (hides : Bool) (result : Result (Unit {0}) FolderFault) (name bytes : List ℕ) (es now : List Event) : Type 0 where
  pub turn : Turn
  pub outcome : Outcome
  pub over : step_of turn ≡ Done outcome
  pub said : result ≡ result_of outcome
  pub drove : ((hides ≡ true) × IsTrue turn.keeps) ⊎ Drove turn (job_of name bytes) es now

-- an append is of a byte of so many
abbrev pub IsWithin : Step → ℕ → Type 0
IsWithin (Append at) size = at ≤ size
IsWithin step size = Unit {0}

-- What asks nothing of the folder is done; no name changes places with another, and no file stays as it is; the bytes are as many as said;
-- and all of them were written.
abbrev pub IsWhole : Step → Answer → ℕ → Type 0
IsWhole Make (No fault) size = ⊥
IsWhole Note (No fault) size = ⊥
IsWhole Unlock (No fault) size = ⊥
IsWhole (Done said) (No fault) size = ⊥
IsWhole StepSetAside (Yes n) size = n ≡ 0
IsWhole Exchange (Yes n) size = ⊥
IsWhole Settle (Yes n) size = ⊥
IsWhole Make (Yes n) size = n ≡ size
IsWhole (Append at) (Yes n) size = at + n ≡ size
IsWhole step answer size = Unit {0}

-- The old file's permission bits, or those that the folder chooses; it is set aside only where its other name is in a folder behind this one.
abbrev pub IsLookedAt : Bool → Step → Answer → Type 0
IsLookedAt hides Read (Yes n) = (n < 512) ⊎ ((1023 < n) ⊎ ((511 < n) × (n < 1024) × (hides ≡ true)))
IsLookedAt hides step answer = Unit {0}

-- What a look found, as it is told to the turn.
abbrev pub IsToldOf : Result Old FolderFault → Answer → Type 0
IsToldOf (Ok Absent) (Yes n) = 1023 < n
IsToldOf (Ok (Bits bits)) (Yes n) = n < 512
IsToldOf (Ok (SetAside bits)) (Yes n) = (511 < n) × (n < 1024)
IsToldOf (Ok old) (No fault) = ⊥
IsToldOf (Err fault) (Yes n) = ⊥
IsToldOf (Err fault) (No told) = Unit {0}

-- What a step did to the folder. Where the other name is in a folder behind it, it doesn't change.
abbrev pub DidHere : Bool → Step → Answer → List ℕ → List ℕ → List Event → List Event → Type 0
DidHere hides StepSetAside answer name bytes es now = hides ≡ true → now ≡ es
DidHere hides Settle answer name bytes es now = now ≡ es
DidHere hides step answer name bytes es now = DidStep step answer (job_of name bytes) es now

-- a step that failed is a failure, but for the removal; no name changes places, and there are always bytes to be written
abbrev pub IsCounted : ℕ → ℕ → Step → Answer → Type 0
IsCounted before now Remove answer = now ≡ before
IsCounted before now Exchange answer = now ≡ before
IsCounted before now Settle answer = now ≡ before
IsCounted before now step (Yes n) = now ≡ before
IsCounted before now step (No fault) = IsOneMore before now

-- what fills the new file needs the turn to
abbrev pub IsAble : Bool → Step → Type 0
IsAble holds (Append at) = holds ≡ true
IsAble holds (Sync bits) = holds ≡ true
IsAble holds step = Unit {0}

-- the turn is not had
abbrev pub IsRefused : Step → Answer → Type 0
IsRefused Lock (Yes n) = ⊥
IsRefused step answer = Unit {0}

-- ---- while it is driven

-- What was done, the last first, where no step failed; and else a crash leaves the old bytes or the new ones.
abbrev pub IsStraight : Step → Outcome → List Event → List Event → List ℕ → List ℕ → Type 0
IsStraight (Append at) o es now name bytes = (at ≡ 0) × (now ≡ create (new_name name) ∷ es)
IsStraight (Sync bits) o es now name bytes = now ≡ append (new_name name) bytes ∷ create (new_name name) ∷ es
IsStraight StepSetAside o es now name bytes = now ≡ staged_onto es (new_name name) bytes
IsStraight Exchange o es now name bytes = ⊥
IsStraight Rename o es now name bytes = now ≡ staged_onto es (new_name name) bytes
IsStraight SyncFolder o es now name bytes = now ≡ rename (new_name name) name ∷ staged_onto es (new_name name) bytes
IsStraight Remove o es now name bytes = IsWholeFile false (job_of name bytes) es now × ¬ (o ≡ Made)
IsStraight Settle o es now name bytes = IsWholeFile false (job_of name bytes) es now × ¬ (o ≡ Made)
IsStraight Note o es now name bytes =
    IsWholeFile false (job_of name bytes) es now × (o ≡ Made → now ≡ settled_onto (staged_onto es (new_name name) bytes) (new_name name) name)
IsStraight Unlock o es now name bytes =
    IsWholeFile false (job_of name bytes) es now × (o ≡ Made → now ≡ settled_onto (staged_onto es (new_name name) bytes) (new_name name) name)
IsStraight (Done said) o es now name bytes =
    IsWholeFile false (job_of name bytes) es now × (o ≡ Made → now ≡ settled_onto (staged_onto es (new_name name) bytes) (new_name name) name)
IsStraight step o es now name bytes = now ≡ es

-- how often the device failed since
abbrev pub CountsSo : Step → Outcome → ℕ → ℕ → Type 0
CountsSo Exchange o before now = ⊥
CountsSo Remove o before now = (¬ (o ≡ Made)) × IsOneMore before now
CountsSo Settle o before now = (¬ (o ≡ Made)) × IsOneMore before now
CountsSo Note o before now = (o ≡ Made → now ≡ before) × (¬ (o ≡ Made) → IsOneMore before now)
CountsSo Unlock o before now = (o ≡ Made → now ≡ before) × (¬ (o ≡ Made) → IsOneMore before now)
CountsSo (Done said) o before now = (o ≡ Made → now ≡ before) × (¬ (o ≡ Made) → IsOneMore before now)
CountsSo step o before now = now ≡ before

-- where files may not be replaced, it comes to no further step than the first, and ends otherwise
abbrev pub IsIdle : Step → Outcome → Type 0
IsIdle Lock o = Unit {0}
IsIdle Remove o = ¬ (o ≡ Made)
IsIdle Settle o = ¬ (o ≡ Made)
IsIdle Note o = ¬ (o ≡ Made)
IsIdle Unlock o = ¬ (o ≡ Made)
IsIdle (Done said) o = ¬ (o ≡ Made)
IsIdle step o = ⊥

-- it was driven so far, or the old file was set aside behind the folder
abbrev pub IsOnWay : Bool → Turn → List ℕ → List ℕ → List Event → List Event → Type 0
IsOnWay hides t name bytes es now = ((hides ≡ true) × IsTrue t.keeps × (6 < place (step_of t))) ⊎ Drove t (job_of name bytes) es now

-- the first name that the old file may get is free, until it has one
abbrev pub aside_of : List ℕ → List ℕ
aside_of name = name ++ codes "~"

abbrev pub IsRoomy : Step → List ℕ → List Event → Type 0
IsRoomy step name es = place step < 7 → file_of es (aside_of name) ≡ None
