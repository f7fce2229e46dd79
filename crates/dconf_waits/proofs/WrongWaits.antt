-- Wrong waits: of what each would do it is proved that the law alone excludes it.
use Rattle.std.proofs.Common.{◌≡◌, ◌≤◌, [], ◌∷◌, arith, ⊎_elim}
use Rattle.dconf_waits.specs.declared.wait.LockWait.{LockWait}
use Rattle.dconf_waits.specs.declared.wait.WaitEnd.TheVariants.{Had, Busy}
use Rattle.dconf_waits.specs.declared.wait.WaitStep.TheVariants as wait
use Rattle.dconf_waits.specs.declared.wait.WaitAnswer.TheVariants.{Taken, Got}
use Rattle.dconf_waits.specs.Waits.{wait_step}
use Rattle.dconf_waits.specs.WaitLaws.{IsGoodWait}

-- it gives up after three milliseconds of ten, and one try
pub too_early : (u : LockWait) → IsGoodWait 10 (record { step = wait.Try; answer = Taken 3 } ∷ []) u → wait_step u ≡ wait.Done Busy → ⊥
too_early u g e = ⊎_elim (λ past. ⊎_elim (λ (le : 10 ≤ 3). omega arith) (λ x. x) past) (λ (all : 1 ≡ 51). omega arith) (g.busy e)

-- it says that the lock is had though no try had it
pub never_had : (u : LockWait) → IsGoodWait 10 (record { step = wait.Try; answer = Taken 3 } ∷ []) u → wait_step u ≡ wait.Done Had → ⊥
never_had u g e = ⊎_elim (λ it. (let bad : Taken 3 ≡ Got = it.1 in cc)) (λ x. x) (g.had e)
