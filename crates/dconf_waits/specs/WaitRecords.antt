-- A wait for a lock, its step and its answer as numbers.
use Rattle.std.specs.Prelude.{ℕ, ◌≡◌, ◌+◌, ◌-◌, ◌/◌, min, if◌then◌else◌, ◌==◌}
use Rattle.dconf_waits.specs.declared.wait.LockWait.{LockWait}
use Rattle.dconf_waits.specs.declared.wait.WaitStage.{WaitStage}
use Rattle.dconf_waits.specs.declared.wait.WaitStage.TheVariants.{Trying, Pausing, Over}
use Rattle.dconf_waits.specs.declared.wait.WaitEnd.TheVariants.{Had, Busy, Stopped}
use Rattle.dconf_waits.specs.declared.wait.WaitStep.{WaitStep}
use Rattle.dconf_waits.specs.declared.wait.WaitStep.TheVariants.{Try, Pause, Done}
use Rattle.dconf_waits.specs.declared.wait.WaitAnswer.{WaitAnswer}
use Rattle.dconf_waits.specs.declared.wait.WaitAnswer.TheVariants.{Got, Taken, Moved, Failed}
use Rattle.dconf_verdicts.specs.declared.answers.FileCall.TheVariants.{Open, Lock}
use Rattle.dconf_verdicts.specs.declared.answers.FaultAnswer.{FaultAnswer}
use Rattle.dconf_verdicts.specs.declared.answers.FaultAnswer.TheVariants as fault
use Rattle.dconf_verdicts.specs.Answers.{answer_of}
use Rattle.dconf_verdicts.specs.Errnos.{kind_of}
use Rattle.dconf_waits.specs.declared.wait_record.WaitRecord.{WaitRecord}
use Rattle.dconf_steps.specs.declared.next_step.NextStep.{NextStep}

abbrev pub wait_stage_of : ℕ → ℕ → WaitStage
wait_stage_of n fault =
    if n == 0 then Trying else if n == 1 then Pausing else if n == 2 then Over Had else if n == 3 then Over Busy else Over (Stopped fault)

abbrev pub wait_of : WaitRecord → LockWait
wait_of r = record { stage = wait_stage_of r.stage r.fault; longest = r.longest; tries = r.tries }

-- ---- the time

-- how many milliseconds it may take: for a lock as many as is said, or without end; and for a file that others have a lease on, a second
abbrev pub longest_of : ℕ → ℕ → ℕ
longest_of what longest = if what == 0 then longest else if what == 1 then 4294967295 else 1000

abbrev pub later_by : ℕ → ℕ → ℕ
later_by moment time = min (moment + time) 18446744073709551615

-- A pause counts as 50 milliseconds at most: what it takes longer, the wait begins later.
abbrev pub began_by : WaitRecord → ℕ → ℕ
began_by r at = if r.paused == 0 then r.began else later_by r.began ((at - r.paused) - 50000000)

-- the milliseconds that count, of nanoseconds; of a wait without end, none
abbrev pub passed_by : WaitRecord → ℕ → ℕ
passed_by r at = if r.is_timed then (at - began_by r at) / 1000000 else 0

abbrev pub paused_by : WaitStage → ℕ → ℕ
paused_by Pausing at = at
paused_by stage at = 0

-- when it began, and when the pause began that is the last step
pub record IsTimed (r : WaitRecord) (at : ℕ) (v : WaitRecord) : Type 0 where
  pub began : v.began ≡ began_by r at
  pub paused : v.paused ≡ paused_by (wait_of r).stage at
  pub is_timed : v.is_timed ≡ r.is_timed

-- ---- what a try says: the call that was the last, and its errno

abbrev pub by_fault : FaultAnswer → ℕ → ℕ → WaitAnswer
by_fault fault.Leased errno passed = Taken passed
by_fault fault.Taken errno passed = Taken passed
by_fault answer errno passed = Failed errno

-- 0 the file was opened, 1 locked, 2 it was seen that its name is another's by now, 3 the lock's file was opened
abbrev pub wait_answer_of : ℕ → ℕ → ℕ → WaitAnswer
wait_answer_of tried errno passed =
    if errno == 0 then (if tried == 2 then Moved passed else Got) else
    if tried == 2 then Failed errno else by_fault (answer_of (if tried == 1 then Lock else Open) (kind_of errno)) errno passed

-- what is told where others had it all the time: EBUSY of a lock's file that others have a lease on, since nobody has the lock; or EAGAIN
abbrev pub busy_errno : ℕ → ℕ
busy_errno tried = if tried == 3 then 16 else 11

-- a pause takes a fifth of a millisecond
abbrev pub IsWaitTold : ℕ → WaitStep → NextStep → Type 0
IsWaitTold tried Try told = told.kind ≡ 0
IsWaitTold tried Pause told = (told.kind ≡ 1) × (told.number ≡ 200000)
IsWaitTold tried (Done Had) told = told.kind ≡ 2
IsWaitTold tried (Done Busy) told = (told.kind ≡ 3) × (told.number ≡ busy_errno tried)
IsWaitTold tried (Done (Stopped fault)) told = (told.kind ≡ 4) × (told.number ≡ fault)
