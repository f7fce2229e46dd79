-- The changes that wait, written together: what comes next, by the queue; which fault is kept of those that are met.
use Rattle.std.specs.Prelude.{ℕ, zero, suc, ◌+◌, Bool, true, false, not, ◌&&◌, if◌then◌else◌, ◌==◌, List, length}
use Rattle.std.specs.List.{list_any}
use Rattle.dconf_steps.specs.declared.queue.QueuedEdit.{QueuedEdit}
use Rattle.dconf_steps.specs.declared.queue.Queue.{Queue}
use Rattle.dconf_steps.specs.declared.queue.QueueAnswer.{QueueAnswer}
use Rattle.dconf_steps.specs.declared.queue.QueueAnswer.TheVariants.{Yes}
use Rattle.dconf_steps.specs.declared.queue.QueueEnd.TheVariants.{Written, Waiting}
use Rattle.dconf_steps.specs.declared.queue.QueueStep.{QueueStep}
use Rattle.dconf_steps.specs.declared.queue.QueueStep.TheVariants.{Take, Pass, Write, Ask, Done}
use Rattle.dconf_steps.specs.Queues.{goes, marked, queue_after_at, queue_step}
use Rattle.dconf_steps.specs.QueueRecords.{queue_answer_of}

-- ---- which edit is at fault

-- how many of the first edits go
abbrev pub count_going : List QueuedEdit → ℕ → ℕ
count_going edits zero = 0
count_going edits (suc at) = if goes edits at then count_going edits at + 1 else count_going edits at

-- Those that go were taken. Of the first edits the one that goes, and before which so many do; or else no edit.
abbrev pub nth_going : List QueuedEdit → ℕ → ℕ → ℕ
nth_going edits nth zero = length edits
nth_going edits nth (suc at) = if goes edits at && (count_going edits at == nth) then at else nth_going edits nth at

-- `nth`: the place of the edit at fault among those that were taken
abbrev pub answer_to : List QueuedEdit → ℕ → ℕ → QueueAnswer
answer_to edits kind nth = queue_answer_of edits kind (nth_going edits nth (length edits))

-- ---- what comes next

abbrev pub step_kind : QueueStep → ℕ
step_kind (Take at) = 0
step_kind (Pass at) = 1
step_kind Write = 2
step_kind (Ask at) = 3
step_kind (Done Written) = 4
step_kind (Done Waiting) = 5

-- whether an edit was taken since the last write
abbrev pub taken_after : ℕ → Bool → Bool
taken_after step taken = if step == 0 then true else if step == 2 then false else taken

-- Where nothing was taken all is written.
abbrev pub unless_nothing : Queue → List QueuedEdit → Bool → Queue
unless_nothing q edits taken = if not taken && (step_kind (queue_step q edits) == 2) then queue_after_at q.stage q edits Yes else q

abbrev pub batch_after : Queue → Bool → List QueuedEdit → ℕ → ℕ → Queue
batch_after q taken edits kind nth =
    unless_nothing (queue_after_at q.stage q edits (answer_to edits kind nth)) (marked edits (queue_step q edits) (answer_to edits kind nth))
    (taken_after (step_kind (queue_step q edits)) taken)

-- ---- what is told

abbrev pub has_refused : List QueuedEdit → Bool
has_refused edits = list_any (λ edit. edit.is_refused) edits

-- What a write failed by is kept as long as no change is refused: so the fault is kept by which the first one is.
abbrev pub keeps_fault : ℕ → List QueuedEdit → ℕ → Bool
keeps_fault step edits answer = (step == 2) && (not (answer == 0) && not (has_refused edits))
