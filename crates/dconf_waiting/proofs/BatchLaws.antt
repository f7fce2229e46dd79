-- The steps of what is written together, by their numbers.
use Rattle.std.proofs.Common.{◌≡◌, refl, List}
use Rattle.dconf_steps.specs.declared.queue.QueuedEdit.{QueuedEdit}
use Rattle.dconf_steps.specs.declared.queue.QueueAnswer.TheVariants.{Yes}
use Rattle.dconf_steps.specs.declared.queue.QueueEnd.TheVariants.{Written, Waiting}
use Rattle.dconf_steps.specs.declared.queue.QueueStep.{QueueStep}
use Rattle.dconf_steps.specs.declared.queue.QueueStep.TheVariants.{Take, Pass, Write, Ask, Done}
use Rattle.dconf_steps.specs.declared.next_step.NextStep.{NextStep}
use Rattle.dconf_steps.specs.Queues.{marked}
use Rattle.dconf_steps.specs.QueueRecords.{IsQueueTold}
use Rattle.dconf_waiting.specs.Batches.{step_kind}

pub told_kind : (step : QueueStep) (told : NextStep) → IsQueueTold step told → told.kind ≡ step_kind step
told_kind (Take at) told h = h.0
told_kind (Pass at) told h = h.0
told_kind Write told h = h
told_kind (Ask at) told h = h.0
told_kind (Done Written) told h = h
told_kind (Done Waiting) told h = h

-- a yes marks nothing
pub unmarked : (edits : List QueuedEdit) (step : QueueStep) → marked edits step Yes ≡ edits
unmarked edits (Take at) = refl
unmarked edits (Pass at) = refl
unmarked edits Write = refl
unmarked edits (Ask at) = refl
unmarked edits (Done end) = refl
