-- The changes that wait: which edits go, and what becomes of them by each answer. It is what the proof keeps; what it promises is in QueueLaws.
use Rattle.std.specs.Prelude.{ℕ, ◌≡◌, ◌+◌, Bool, true, false, not, ◌&&◌, ◌||◌, if◌then◌else◌, List, length, Option, Some, None, slice_get, slice_set, nat_lt}
use Rattle.dconf_steps.specs.declared.queue.QueuedEdit.{QueuedEdit}
use Rattle.dconf_steps.specs.declared.queue.Queue.{Queue}
use Rattle.dconf_steps.specs.declared.queue.QueueStage.{QueueStage}
use Rattle.dconf_steps.specs.declared.queue.QueueStage.TheVariants.{Taking, Asking, Over}
use Rattle.dconf_steps.specs.declared.queue.QueueEnd.TheVariants.{Written, Waiting}
use Rattle.dconf_steps.specs.declared.queue.QueueStep.{QueueStep}
use Rattle.dconf_steps.specs.declared.queue.QueueStep.TheVariants.{Take, Pass, Write, Ask, Done}
use Rattle.dconf_steps.specs.declared.queue.QueueAnswer.{QueueAnswer}
use Rattle.dconf_steps.specs.declared.queue.QueueAnswer.TheVariants.{Yes, Locked, Fault, Later}

-- ---- edits

abbrev pub is_open_by : Option QueuedEdit → Bool
is_open_by None = false
is_open_by (Some first) = not first.is_refused

-- a change begins there, and is not refused
abbrev pub is_open : List QueuedEdit → ℕ → Bool
is_open edits change = is_open_by (slice_get edits change)

abbrev pub goes_by : List QueuedEdit → Option QueuedEdit → Bool
goes_by edits None = false
goes_by edits (Some edit) = not edit.is_left_out && is_open edits edit.change

-- the edit is to be made: it is not left out, and its change is not refused
abbrev pub goes : List QueuedEdit → ℕ → Bool
goes edits at = goes_by edits (slice_get edits at)

abbrev pub refused_by : List QueuedEdit → ℕ → Option QueuedEdit → List QueuedEdit
refused_by edits change None = edits
refused_by edits change (Some first) = slice_set edits change (record first { is_refused = true })

-- the change that begins there is refused
abbrev pub refused : List QueuedEdit → ℕ → List QueuedEdit
refused edits change = refused_by edits change (slice_get edits change)

abbrev pub unmade_by : List QueuedEdit → ℕ → Option QueuedEdit → List QueuedEdit
unmade_by edits at None = edits
unmade_by edits at (Some edit) = if edit.sets then refused edits edit.change else slice_set edits at (record edit { is_left_out = true })

-- a reset is left out, and the change of an edit that sets a key is refused
abbrev pub unmade : List QueuedEdit → ℕ → List QueuedEdit
unmade edits at = unmade_by edits at (slice_get edits at)

abbrev pub faulted_by : List QueuedEdit → Option QueuedEdit → List QueuedEdit
faulted_by edits None = edits
faulted_by edits (Some edit) = refused edits edit.change

-- the change of an edit with a fault is refused, if it goes
abbrev pub refused_for : List QueuedEdit → ℕ → List QueuedEdit
refused_for edits at = if goes edits at then faulted_by edits (slice_get edits at) else edits

abbrev pub is_locked : QueueAnswer → Bool
is_locked Locked = true
is_locked answer = false

-- what becomes of the edits by an answer
abbrev pub marked : List QueuedEdit → QueueStep → QueueAnswer → List QueuedEdit
marked edits (Ask at) Locked = unmade edits at
marked edits Write (Fault at) = refused_for edits at
marked edits step answer = edits

-- ---- steps

abbrev pub taking_step : ℕ → List QueuedEdit → QueueStep
taking_step at edits = if nat_lt at (length edits) then (if goes edits at then Take at else Pass at) else Write

abbrev pub asking_step : ℕ → List QueuedEdit → QueueStep
asking_step at edits = if goes edits at then Ask at else Pass at

abbrev pub queue_step_at : QueueStage → ℕ → List QueuedEdit → QueueStep
queue_step_at Taking at edits = taking_step at edits
queue_step_at Asking at edits = asking_step at edits
queue_step_at (Over end) at edits = Done end

abbrev pub queue_step : Queue → List QueuedEdit → QueueStep
queue_step q edits = queue_step_at q.stage q.at edits

abbrev pub at_first : QueueStage → Queue
at_first stage = record { stage = stage; at = 0; has_marked = false }

abbrev pub taking : Queue
taking = at_first Taking

-- After the last key it is tried again, unless nothing was marked, and that would be in vain.
abbrev pub after_key : Queue → ℕ → Bool → Queue
after_key q count has_marked =
    if nat_lt (q.at + 1) count then record q { at = q.at + 1; has_marked = has_marked } else
    if has_marked then at_first Taking else at_first (Over Waiting)

abbrev pub after_fault : List QueuedEdit → ℕ → Queue
after_fault edits at = if goes edits at then at_first Taking else at_first (Over Waiting)

abbrev pub after_write : List QueuedEdit → QueueAnswer → Queue
after_write edits Yes = at_first (Over Written)
after_write edits Locked = at_first Asking
after_write edits (Fault at) = after_fault edits at
after_write edits Later = at_first (Over Waiting)

abbrev pub queue_after_at : QueueStage → Queue → List QueuedEdit → QueueAnswer → Queue
queue_after_at Taking q edits answer = if nat_lt q.at (length edits) then record q { at = q.at + 1 } else after_write edits answer
queue_after_at Asking q edits answer = after_key q (length edits) (q.has_marked || (goes edits q.at && is_locked answer))
queue_after_at (Over end) q edits answer = q

pub record IsQueueAnswered (q : Queue) (edits : List QueuedEdit) (answer : QueueAnswer) (v : Queue) (after : List QueuedEdit) : Type 0 where
  pub next : v ≡ queue_after_at q.stage q edits answer
  pub edits_are : after ≡ marked edits (queue_step q edits) answer
