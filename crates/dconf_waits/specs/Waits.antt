-- The steps of a wait for a lock: what may follow which, and when it gives up.
use Rattle.std.specs.Prelude.{ℕ, ◌≡◌, ◌⊎◌, ◌+◌, ◌*◌, ◌≤◌, ◌<◌}
use Rattle.dconf_waits.specs.declared.wait.LockWait.{LockWait}
use Rattle.dconf_waits.specs.declared.wait.WaitStage.{WaitStage}
use Rattle.dconf_waits.specs.declared.wait.WaitStage.TheVariants.{Trying, Pausing, Over}
use Rattle.dconf_waits.specs.declared.wait.WaitEnd.TheVariants.{Had, Busy, Stopped}
use Rattle.dconf_waits.specs.declared.wait.WaitStep.{WaitStep}
use Rattle.dconf_waits.specs.declared.wait.WaitStep.TheVariants.{Try, Pause, Done}
use Rattle.dconf_waits.specs.declared.wait.WaitAnswer.{WaitAnswer}
use Rattle.dconf_waits.specs.declared.wait.WaitAnswer.TheVariants.{Got, Taken, Moved, Failed}

abbrev pub wait_step_at : WaitStage → WaitStep
wait_step_at Trying = Try
wait_step_at Pausing = Pause
wait_step_at (Over end) = Done end

abbrev pub wait_step : LockWait → WaitStep
wait_step w = wait_step_at w.stage

abbrev pub IsWaitDone : WaitStep → Type 0
IsWaitDone (Done end) = Unit {0}
IsWaitDone _ = ⊥

-- Who got the lock has it. Who found it taken pauses and tries again, or gives up; where its name was another file's, at once.
abbrev pub WaitGoes : WaitStep → WaitAnswer → WaitStep → Type 0
WaitGoes Try Got next = next ≡ Done Had
WaitGoes Try (Taken passed) next = (next ≡ Pause) ⊎ (next ≡ Done Busy)
WaitGoes Try (Moved passed) next = (next ≡ Try) ⊎ (next ≡ Done Busy)
WaitGoes Try (Failed fault) next = next ≡ Done (Stopped fault)
WaitGoes Pause answer next = next ≡ Try
WaitGoes (Done end) answer next = next ≡ Done end

-- it was not had, so long after the wait began
abbrev pub IsPast : ℕ → WaitStep → WaitAnswer → Type 0
IsPast longest Try (Taken passed) = longest ≤ passed
IsPast longest Try (Moved passed) = longest ≤ passed
IsPast longest step answer = ⊥

abbrev pub tries_of : WaitStep → ℕ
tries_of Try = 1
tries_of step = 0

-- how many steps are left at most
abbrev pub wait_left_at : WaitStage → ℕ → ℕ
wait_left_at Trying tries = 2 * tries + 1
wait_left_at Pausing tries = 2 * tries + 2
wait_left_at (Over end) tries = 0

abbrev pub wait_left : LockWait → ℕ
wait_left w = wait_left_at w.stage w.tries

-- five tries in a millisecond, and one more
pub record IsWaitBegun (longest : ℕ) (w : LockWait) : Type 0 where
  pub first : wait_step w ≡ Try
  pub longest_is : w.longest ≡ longest
  pub tries : w.tries ≡ longest * 5
  pub left : wait_left w ≡ 10 * longest + 1

-- What became of a wait when a step's answer was given, whatever the answer was.
pub record IsWaitAnswered (w : LockWait) (answer : WaitAnswer) (v : LockWait) : Type 0 where
  pub goes : WaitGoes (wait_step w) answer (wait_step v)
  -- it gives up where the time is over, and only there, or after so many tries
  pub over : IsPast w.longest (wait_step w) answer → wait_step v ≡ Done Busy
  pub only : wait_step v ≡ Done Busy → (wait_step w ≡ Done Busy) ⊎ (IsPast w.longest (wait_step w) answer ⊎ ((wait_step w ≡ Try) × (w.tries ≡ 0)))
  pub longest : v.longest ≡ w.longest
  pub tries : IsWaitDone (wait_step v) ⊎ (v.tries + tries_of (wait_step w) ≡ w.tries)
  pub fewer : IsWaitDone (wait_step w) ⊎ (wait_left v < wait_left w)

-- ---- words of private parts

-- it goes on so, with one try fewer, or gives up
abbrev pub IsWaitedOn : LockWait → ℕ → WaitStage → LockWait → Type 0
IsWaitedOn w passed stage v =
    ((passed < w.longest) × (0 < w.tries) × (v.stage ≡ stage) × (v.longest ≡ w.longest) × (v.tries + 1 ≡ w.tries))
    ⊎ (((w.longest ≤ passed) ⊎ (w.tries ≡ 0)) × (v ≡ record w { stage = Over Busy }))
