-- The changes that wait, whatever is answered.
use Rattle.std.specs.Prelude.{ℕ, zero, suc, ◌≡◌, ◌⊎◌, ◌+◌, ◌*◌, ◌≤◌, Bool, true, false, List, [], ◌∷◌, ◌++◌, length, map, Option, Some, None, slice_get}
use Rattle.dconf_steps.specs.declared.queue.QueuedEdit.{QueuedEdit}
use Rattle.dconf_steps.specs.declared.queue.Queue.{Queue}
use Rattle.dconf_steps.specs.declared.queue.QueueEnd.TheVariants.{Written, Waiting}
use Rattle.dconf_steps.specs.declared.queue.QueueStep.{QueueStep}
use Rattle.dconf_steps.specs.declared.queue.QueueStep.TheVariants.{Take, Write, Ask, Done}
use Rattle.dconf_steps.specs.declared.queue.QueueAnswer.{QueueAnswer}
use Rattle.dconf_steps.specs.declared.queue.QueueAnswer.TheVariants.{Yes, Locked, Fault, Later}
use Rattle.dconf_steps.specs.Queues.{goes, queue_step, taking, IsQueueAnswered}

-- a step that was carried out, the edits as they were then, and the answer
pub record TakenStep : Type 0 where
  pub step : QueueStep
  pub edits : List QueuedEdit
  pub answer : QueueAnswer

abbrev pub IsQueueDone : QueueStep → Type 0
IsQueueDone (Done end) = Unit {0}
IsQueueDone _ = ⊥

-- Each step was the one that the queue said of the edits, and the queue took the answer.
abbrev pub RanQueue : List TakenStep → Queue → List QueuedEdit → Queue → List QueuedEdit → Type 0
RanQueue [] q edits u after = (u ≡ q) × (after ≡ edits)
RanQueue (s ∷ more) q edits u after =
    (s.step ≡ queue_step q edits) × (s.edits ≡ edits) × (¬ IsQueueDone s.step)
    × ((next : Queue) × (then_are : List QueuedEdit) × IsQueueAnswered q edits s.answer next then_are × RanQueue more next then_are u after)

-- ---- what is refused, and what is left out

abbrev pub is_refused_by : Option QueuedEdit → Bool
is_refused_by None = false
is_refused_by (Some first) = first.is_refused

-- the change that begins there is refused
abbrev pub is_refused : List QueuedEdit → ℕ → Bool
is_refused edits change = is_refused_by (slice_get edits change)

abbrev pub is_left_out_by : Option QueuedEdit → Bool
is_left_out_by None = false
is_left_out_by (Some edit) = edit.is_left_out

abbrev pub is_left_out : List QueuedEdit → ℕ → Bool
is_left_out edits at = is_left_out_by (slice_get edits at)

abbrev pub IsOf : Option QueuedEdit → ℕ → Type 0
IsOf None change = ⊥
IsOf (Some edit) change = edit.change ≡ change

abbrev pub Sets : Option QueuedEdit → Bool → Type 0
Sets None sets = ⊥
Sets (Some edit) sets = edit.sets ≡ sets

-- a fault of the change's own: an edit that sets a locked key, or has a fault
abbrev pub IsOwnFault : ℕ → QueueStep → List QueuedEdit → QueueAnswer → Type 0
IsOwnFault change (Ask at) edits Locked = IsOf (slice_get edits at) change × Sets (slice_get edits at) true
IsOwnFault change Write edits (Fault at) = IsOf (slice_get edits at) change
IsOwnFault change step edits answer = ⊥

abbrev pub HasOwnFault : ℕ → List TakenStep → Type 0
HasOwnFault change [] = ⊥
HasOwnFault change (s ∷ more) = IsOwnFault change s.step s.edits s.answer ⊎ HasOwnFault change more

-- the edit is a reset of what is locked
abbrev pub IsLockedReset : ℕ → QueueStep → List QueuedEdit → QueueAnswer → Type 0
IsLockedReset edit (Ask at) edits Locked = (edit ≡ at) × Sets (slice_get edits at) false
IsLockedReset edit step edits answer = ⊥

abbrev pub HasLockedReset : ℕ → List TakenStep → Type 0
HasLockedReset edit [] = ⊥
HasLockedReset edit (s ∷ more) = IsLockedReset edit s.step s.edits s.answer ⊎ HasLockedReset edit more

-- ---- what is written

abbrev pub with_edit : Bool → ℕ → List ℕ
with_edit true at = at ∷ []
with_edit false at = []

-- of the first edits those that go, in their order
abbrev pub going_first : ℕ → List QueuedEdit → List ℕ
going_first zero edits = []
going_first (suc at) edits = going_first at edits ++ with_edit (goes edits at) at

-- All edits that go, in their order: each of a change that is not refused, but for those that are left out.
abbrev pub going : List QueuedEdit → List ℕ
going edits = going_first (length edits) edits

-- The edits that one call was made for, which wrote them: those that were taken since the call before it. No other is made after it.
abbrev pub written_by : QueueStep → QueueAnswer → (List ℕ → Option (List ℕ)) → List ℕ → Option (List ℕ)
written_by (Take at) answer later held = later (held ++ at ∷ [])
written_by Write Yes later held = Some held
written_by Write answer later held = later []
written_by step answer later held = later held

abbrev pub written_of : List TakenStep → List ℕ → Option (List ℕ)
written_of [] held = None
written_of (s ∷ more) held = written_by s.step s.answer (written_of more) held

-- ---- what nothing is written for

-- It is no fault of an edit; or a key was locked, and then nothing was found that is; or the fault is of no edit that goes.
abbrev pub IsHeld : List QueuedEdit → QueueStep → List QueuedEdit → QueueAnswer → Type 0
IsHeld after Write edits Later = Unit {0}
IsHeld after Write edits Locked = after ≡ edits
IsHeld after Write edits (Fault at) = goes edits at ≡ false
IsHeld after step edits answer = ⊥

abbrev pub HasHeld : List QueuedEdit → List TakenStep → Type 0
HasHeld after [] = ⊥
HasHeld after (s ∷ more) = IsHeld after s.step s.edits s.answer ⊎ HasHeld after more

-- what an edit asks for, whatever became of it
abbrev pub asked_of : QueuedEdit → QueuedEdit
asked_of edit = record edit { is_left_out = false; is_refused = false }

-- ---- how many steps

abbrev pub flag : Bool → ℕ
flag true = 0
flag false = 1

-- the edits that are not left out, and the changes that are not refused
abbrev pub unmarked : List QueuedEdit → ℕ
unmarked [] = 0
unmarked (edit ∷ more) = flag edit.is_left_out + flag edit.is_refused + unmarked more

-- A round takes each edit, writes, and asks about each key.
abbrev pub rounds : ℕ → ℕ → ℕ
rounds zero count = 0
rounds (suc n) count = 2 * count + 2 + rounds n count

-- ---- the law

pub record IsGoodQueue (taken : List TakenStep) (u : Queue) (edits after : List QueuedEdit) : Type 0 where
  -- a change is refused only for a fault of its own
  pub own : (change : ℕ) → is_refused after change ≡ true → (is_refused edits change ≡ true) ⊎ HasOwnFault change taken
  -- an edit is left out only where it is a reset of what is locked
  pub resets : (edit : ℕ) → is_left_out after edit ≡ true → (is_left_out edits edit ≡ true) ⊎ HasLockedReset edit taken
  -- what is written are, in their order, the edits of all changes that are not refused, but for those that are left out
  pub written : queue_step u after ≡ Done Written → written_of taken [] ≡ Some (going after)
  -- and else nothing is, and not for a fault of a change's own
  pub waiting : queue_step u after ≡ Done Waiting → written_of taken [] ≡ None
  pub held : queue_step u after ≡ Done Waiting → HasHeld after taken
  pub asked : map asked_of after ≡ map asked_of edits
  pub count : length taken ≤ rounds (unmarked edits + 1) (length edits)

abbrev pub WhateverIsWritten : Type 0
WhateverIsWritten = (taken : List TakenStep) (u : Queue) (edits after : List QueuedEdit) → RanQueue taken taking edits u after → IsGoodQueue taken u edits after
