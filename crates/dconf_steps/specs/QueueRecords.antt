-- What waits, its step and its answer as numbers.
use Rattle.std.specs.Prelude.{ℕ, zero, suc, ◌≡◌, if◌then◌else◌, ◌==◌, ◌&&◌, Bool, false, List, length, Option, Some, None, slice_get}
use Rattle.dconf_steps.specs.Queues.{goes}
use Rattle.dconf_steps.specs.declared.queue.QueuedEdit.{QueuedEdit}
use Rattle.dconf_steps.specs.declared.queue.Queue.{Queue}
use Rattle.dconf_steps.specs.declared.queue.QueueStage.{QueueStage}
use Rattle.dconf_steps.specs.declared.queue.QueueStage.TheVariants.{Taking, Asking, Over}
use Rattle.dconf_steps.specs.declared.queue.QueueEnd.TheVariants.{Written, Waiting}
use Rattle.dconf_steps.specs.declared.queue.QueueStep.{QueueStep}
use Rattle.dconf_steps.specs.declared.queue.QueueStep.TheVariants.{Take, Pass, Write, Ask, Done}
use Rattle.dconf_steps.specs.declared.queue.QueueAnswer.{QueueAnswer}
use Rattle.dconf_steps.specs.declared.queue.QueueAnswer.TheVariants.{Yes, Locked, Fault, Later}
use Rattle.dconf_steps.specs.declared.queue_record.QueueRecord.{QueueRecord}
use Rattle.dconf_steps.specs.declared.next_step.NextStep.{NextStep}

abbrev pub queue_stage_of : ℕ → QueueStage
queue_stage_of n = if n == 0 then Taking else if n == 1 then Asking else if n == 2 then Over Written else Over Waiting

abbrev pub queue_of : QueueRecord → Queue
queue_of r = record { stage = queue_stage_of r.stage; at = r.at; has_marked = r.has_marked }

abbrev pub sets_by : Option QueuedEdit → Bool
sets_by None = false
sets_by (Some edit) = edit.sets

-- of so many edits the last that sets something and is to be made; or, where there is none, no edit
abbrev pub last_set : List QueuedEdit → ℕ → ℕ
last_set edits zero = length edits
last_set edits (suc at) = if sets_by (slice_get edits at) && goes edits at then at else last_set edits at

-- What nobody may write is locked. Where the file would be too large, that is the fault of the newest edit that sets something.
abbrev pub queue_answer_of : List QueuedEdit → ℕ → ℕ → QueueAnswer
queue_answer_of edits kind at =
    if kind == 0 then Yes else if kind == 1 then Locked else if kind == 2 then Fault at else
    if kind == 4 then Locked else if kind == 5 then Fault (last_set edits (length edits)) else Later

abbrev pub IsQueueTold : QueueStep → NextStep → Type 0
IsQueueTold (Take at) told = (told.kind ≡ 0) × (told.number ≡ at)
IsQueueTold (Pass at) told = (told.kind ≡ 1) × (told.number ≡ at)
IsQueueTold Write told = told.kind ≡ 2
IsQueueTold (Ask at) told = (told.kind ≡ 3) × (told.number ≡ at)
IsQueueTold (Done Written) told = told.kind ≡ 4
IsQueueTold (Done Waiting) told = told.kind ≡ 5
