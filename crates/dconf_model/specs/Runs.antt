-- What a run leaves: in its folder, on out and err, and its status.
use Rattle.std.specs.Prelude.{◌≡◌, ◌⊎◌, ℕ, Bool, true, false, List, [], Option, Some, None, codes, length}
use mathlib.Core.Logic.{inl, inr}
use Rattle.std.specs.Io.KnownBytes.{Appends}
use Rattle.dconf_model.specs.Bytes.{MaybeBytes}
use Rattle.dconf_model.specs.Folders.{Event, MayLeave, MayHaveLeft, read_content}
use Rattle.dconf_model.specs.Replacing.{Replaced, MaybeReplaced, new_name}
use Rattle.dconf_model.specs.Commands.{Command}
use Rattle.dconf_model.specs.Reads.{ReadResults, Input, read_of, steady}
use Rattle.dconf_model.specs.Reads.FileRead.{failed}
use Rattle.dconf_model.specs.FaultTexts.{device_text}
use Rattle.dconf_model.specs.Outcomes.{Output, Outcome, Replacement, IsOutcome, refused_output}

-- ---- the folder

-- each read of a run gave what the folder holds, or failed
abbrev pub ReadsFrom : List Event → ReadResults → Type 0
ReadsFrom es reads = (n : ℕ) (name : List ℕ) → (reads n name ≡ read_of (read_content es name)) ⊎ (reads n name ≡ failed)

-- none failed
abbrev pub ReadsAll : List Event → ReadResults → Type 0
ReadsAll es reads = (n : ℕ) (name : List ℕ) → reads n name ≡ read_of (read_content es name)

-- ---- how a run ends

-- the outcome itself, or a fault of the device where a file was to be replaced
pub data RunEnding : Type 0 where
  as_meant : RunEnding
  device : RunEnding

-- what is written then
abbrev pub device_output : Output → Option Replacement → Output
device_output output (Some r) = refused_output (device_text r.name)
device_output output None = output

abbrev pub output_of : Outcome → RunEnding → Output
output_of o as_meant = o.output
output_of o device = device_output o.output o.change

-- and what was done to the folder: nothing where no file was to be replaced
abbrev pub Did : Option Replacement → RunEnding → List Event → List Event → Type 0
Did None as_meant old new = new ≡ old
Did None device old new = ⊥
Did (Some r) as_meant old new = Replaced old new r.name r.bytes
Did (Some r) device old new = MaybeReplaced old new r.name r.bytes

-- an outcome of the command, by what its reads gave, and how it ended
pub record Answered (command : Command) (input : Input) (reads : ReadResults) (output : Output) : Type 0 where
  pub outcome : Outcome
  pub ending : RunEnding
  pub is : IsOutcome command reads input outcome
  pub output_is : output ≡ output_of outcome ending

-- law: what its reads and its input give leaves a command one output
abbrev pub OneOutput : Type 0
OneOutput =
    (command : Command) (reads : ReadResults) (input : Input) (o p : Outcome) → IsOutcome command reads input o → IsOutcome command reads input p →
    o.output ≡ p.output

-- where memory ran out, nothing is known but the line that says so
abbrev pub NoMemory : Output → Type 0
NoMemory output = output ≡ refused_output (codes "Memory")

-- what a run answers in any folder
abbrev pub Answers : Command → Input → ReadResults → Output → Type 0
Answers command input reads output = Answered command input reads output ⊎ NoMemory output

-- what it answers, and what it did, in a folder whose events are known
abbrev pub AnswersIn : Command → Input → ReadResults → List Event → List Event → Output → Type 0
AnswersIn command input reads old new output =
    ((a : Answered command input reads output) × Did a.outcome.change a.ending old new) ⊎ (NoMemory output × (new ≡ old))

pub record Ran (command : Command) (input : Input) (old new : List Event) (output : Output) : Type 0 where
  pub reads : ReadResults
  pub given : ReadsFrom old reads
  pub answers : AnswersIn command input reads old new output

-- ---- where nothing fails

-- what a command without a fault answers, by what its folder holds: its outcome, or the line for running out of memory
pub record DidAsMeant (command : Command) (input : Input) (old new : List Event) (output : Output) : Type 0 where
  pub outcome : Outcome
  pub is : IsOutcome command (steady (read_content old)) input outcome
  pub did : Did outcome.change as_meant old new
  pub output_is : output ≡ outcome.output

abbrev pub RanCalmly : Command → Input → List Event → List Event → Output → Type 0
RanCalmly command input old new output = DidAsMeant command input old new output ⊎ (NoMemory output × (new ≡ old))

-- the device didn't fail where a file was to be replaced
abbrev pub EndsCalmly : {command : Command} {input : Input} {reads : ReadResults} {old new : List Event} {output : Output} →
    AnswersIn command input reads old new output → Type 0
EndsCalmly (inl p) = p.0.ending ≡ as_meant
EndsCalmly (inr m) = Unit {0}

-- law: where no read and no writing call failed, a run is a calm one
abbrev pub CalmRuns : Type 0
CalmRuns =
    (command : Command) (input : Input) (old new : List Event) (output : Output) (r : Ran command input old new output) →
    ReadsAll old r.reads → EndsCalmly r.answers → RanCalmly command input old new output

-- ---- the streams

-- out and err grew by exactly the output's bytes, and the status is its status
pub record Wrote (o : Output) (status : ℕ) (out_old out_new err_old err_new : MaybeBytes) : Type 0 where
  pub out : Appends out_old out_new o.out
  pub err : Appends err_old err_new o.err
  pub status_is : status ≡ o.status

-- a write to out failed: whatever the outcome was, nothing is said of it on err
pub record FailedOut (status : ℕ) (err_old err_new : MaybeBytes) : Type 0 where
  pub err : Appends err_old err_new []
  pub status_is : status ≡ 1

-- what a run leaves on its streams, where writes to err don't fail: whether one to out failed
abbrev pub LeftOnStreams : Bool → Output → ℕ → MaybeBytes → MaybeBytes → MaybeBytes → MaybeBytes → Type 0
LeftOnStreams false o status out_old out_new err_old err_new = Wrote o status out_old out_new err_old err_new
LeftOnStreams true o status out_old out_new err_old err_new = FailedOut status err_old err_new

-- ---- a crash

-- the file that a command replaces, by what its reads gave, and what its outcome would have it hold
abbrev pub MayMake : Command → Input → ReadResults → List ℕ → List ℕ → Type 0
MayMake command input reads name bytes =
    (o : Outcome) × IsOutcome command reads input o × (o.change ≡ Some (record { name = name; bytes = bytes }))

-- the new name of that file is the command's own to write
abbrev pub IsNewName : Command → Input → ReadResults → List ℕ → Type 0
IsNewName command input reads name =
    (own : List ℕ) × (bytes : List ℕ) × MayMake command input reads own bytes × (name ≡ new_name own)

-- At any moment of a run a crash leaves under each name what it might have left before, or what the command is to make of the
-- files that were read.
abbrev pub IsCrashSafe : Command → Input → ReadResults → List Event → List Event → Type 0
IsCrashSafe command input reads old new = (name : List ℕ) (c : Option (List ℕ)) → MayHaveLeft new (length old) name c →
    MayLeave old name c
    ⊎ (((bytes : List ℕ) × MayMake command input reads name bytes × (c ≡ Some bytes)) ⊎ IsNewName command input reads name)

-- law: every run is
abbrev pub RunsAreCrashSafe : Type 0
RunsAreCrashSafe =
    (command : Command) (input : Input) (old new : List Event) (output : Output) (r : Ran command input old new output) →
    IsCrashSafe command input r.reads old new
