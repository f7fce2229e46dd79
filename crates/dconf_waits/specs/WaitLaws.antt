-- A wait for a lock, whatever is answered.
use Rattle.std.specs.Prelude.{ℕ, ◌≡◌, ◌⊎◌, ◌+◌, ◌*◌, ◌≤◌, List, [], ◌∷◌, length}
use Rattle.dconf_waits.specs.declared.wait.LockWait.{LockWait}
use Rattle.dconf_waits.specs.declared.wait.WaitEnd.TheVariants.{Had, Busy}
use Rattle.dconf_waits.specs.declared.wait.WaitStep.{WaitStep}
use Rattle.dconf_waits.specs.declared.wait.WaitStep.TheVariants.{Try, Done}
use Rattle.dconf_waits.specs.declared.wait.WaitAnswer.{WaitAnswer}
use Rattle.dconf_waits.specs.declared.wait.WaitAnswer.TheVariants.{Got}
use Rattle.dconf_waits.specs.Waits.{wait_step, IsWaitDone, WaitGoes, IsPast, tries_of, IsWaitBegun, IsWaitAnswered}

-- a step that was carried out, and its answer
pub record Waited : Type 0 where
  pub step : WaitStep
  pub answer : WaitAnswer

-- Each step was the one that the wait said, and the wait took the answer.
abbrev pub RanWait : List Waited → LockWait → LockWait → Type 0
RanWait [] w u = u ≡ w
RanWait (s ∷ more) w u = (s.step ≡ wait_step w) × (¬ IsWaitDone s.step) × ((next : LockWait) × IsWaitAnswered w s.answer next × RanWait more next u)

abbrev pub first_waited : List Waited → LockWait → WaitStep
first_waited [] u = wait_step u
first_waited (s ∷ more) u = s.step

abbrev pub AreWaitsInOrder : List Waited → LockWait → Type 0
AreWaitsInOrder [] u = Unit {0}
AreWaitsInOrder (s ∷ more) u = WaitGoes s.step s.answer (first_waited more u) × AreWaitsInOrder more u

abbrev pub tries_in : List Waited → ℕ
tries_in [] = 0
tries_in (s ∷ more) = tries_of s.step + tries_in more

-- a try had the lock
abbrev pub HasGot : List Waited → Type 0
HasGot [] = ⊥
HasGot (s ∷ more) = ((s.step ≡ Try) × (s.answer ≡ Got)) ⊎ HasGot more

-- a try did not have it, and the time was over
abbrev pub HasPast : ℕ → List Waited → Type 0
HasPast longest [] = ⊥
HasPast longest (s ∷ more) = IsPast longest s.step s.answer ⊎ HasPast longest more

pub record IsGoodWait (longest : ℕ) (taken : List Waited) (u : LockWait) : Type 0 where
  pub first : first_waited taken u ≡ Try
  pub order : AreWaitsInOrder taken u
  pub had : wait_step u ≡ Done Had → HasGot taken
  -- it gives up after five tries in a millisecond, and one more, if not when the time is over
  pub busy : wait_step u ≡ Done Busy → HasPast longest taken ⊎ (tries_in taken ≡ longest * 5 + 1)
  pub over : HasPast longest taken → wait_step u ≡ Done Busy
  pub count : length taken ≤ 10 * longest + 1

abbrev pub HoweverLongItWaits : Type 0
HoweverLongItWaits = (longest : ℕ) (taken : List Waited) (w u : LockWait) → IsWaitBegun longest w → RanWait taken w u → IsGoodWait longest taken u
