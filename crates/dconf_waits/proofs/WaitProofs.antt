-- What holds of a wait for a lock after any answers.
use Rattle.std.proofs.Common.{◌+◌, ◌<◌, ◌≤◌, ◌≡◌, ◌⊎◌, List, [], ◌∷◌, length, refl, sym, ◌∙◌, ap, subst, arith, ⊎_elim, inl, inr}
use Rattle.dconf_waits.specs.declared.wait.LockWait.{LockWait}
use Rattle.dconf_waits.specs.declared.wait.WaitEnd.TheVariants.{Had, Busy, Stopped}
use Rattle.dconf_waits.specs.declared.wait.WaitStep.{WaitStep}
use Rattle.dconf_waits.specs.declared.wait.WaitStep.TheVariants.{Try, Pause, Done}
use Rattle.dconf_waits.specs.declared.wait.WaitAnswer.{WaitAnswer}
use Rattle.dconf_waits.specs.declared.wait.WaitAnswer.TheVariants.{Got, Taken, Moved, Failed}
use Rattle.dconf_waits.specs.Waits.{wait_step, wait_left, IsWaitDone, WaitGoes, IsPast, tries_of, IsWaitAnswered}
use Rattle.dconf_waits.specs.WaitLaws.{Waited, RanWait, first_waited, AreWaitsInOrder, tries_in, HasGot, HasPast, HoweverLongItWaits}

first_is : (taken : List Waited) (w u : LockWait) → RanWait taken w u → first_waited taken u ≡ wait_step w
first_is [] w u h = ap wait_step h
first_is (s ∷ more) w u h = h.0

ordered : (taken : List Waited) (w u : LockWait) → RanWait taken w u → AreWaitsInOrder taken u
ordered [] w u h = tt
ordered (s ∷ more) w u h = (
  subst (λ x. WaitGoes x s.answer (first_waited more u)) (sym h.0)
      (subst (λ x. WaitGoes (wait_step w) s.answer x) (sym (first_is more h.2.0 u h.2.2)) h.2.1.goes),
  ordered more h.2.0 u h.2.2,
)

-- ---- that it is had

got_by : (step : WaitStep) (answer : WaitAnswer) (next : WaitStep) → WaitGoes step answer next → next ≡ Done Had → (step ≡ Done Had) ⊎ ((step ≡ Try) × (answer ≡ Got))
got_by Try Got next g e = inr (refl, refl)
got_by Try (Taken p) next g e = ⊎_elim (λ (a : next ≡ Pause). (let bad : Pause ≡ Done Had = sym a ∙ e in cc)) (λ (a : next ≡ Done Busy). (let bad : Done Busy ≡ Done Had = sym a ∙ e in cc)) g
got_by Try (Moved p) next g e = ⊎_elim (λ (a : next ≡ Try). (let bad : Try ≡ Done Had = sym a ∙ e in cc)) (λ (a : next ≡ Done Busy). (let bad : Done Busy ≡ Done Had = sym a ∙ e in cc)) g
got_by Try (Failed f) next g e = let bad : Done (Stopped f) ≡ Done Had = sym g ∙ e in cc
got_by Pause answer next g e = let bad : Try ≡ Done Had = sym g ∙ e in cc
got_by (Done end) answer next g e = inl (sym g ∙ e)

had : (taken : List Waited) (w u : LockWait) → RanWait taken w u → wait_step u ≡ Done Had → (wait_step w ≡ Done Had) ⊎ HasGot taken
had [] w u h e = inl (ap wait_step (sym h) ∙ e)
had (s ∷ more) w u h e =
    ⊎_elim (λ (before : wait_step h.2.0 ≡ Done Had). ⊎_elim (λ was. inl was) (λ it. inr (inl (h.0 ∙ it.0, it.1)))
    (got_by (wait_step w) s.answer (wait_step h.2.0) h.2.1.goes before)) (λ later. inr (inr later)) (had more h.2.0 u h.2.2 e)

-- ---- that it is over

done_or_not : (step : WaitStep) → IsWaitDone step ⊎ ¬ IsWaitDone step
done_or_not (Done end) = inl tt
done_or_not _ = inr (λ x. x)

stays : (taken : List Waited) (w u : LockWait) → RanWait taken w u → IsWaitDone (wait_step w) → (u ≡ w) × (tries_in taken ≡ 0)
stays [] w u h d = (h, refl)
stays (s ∷ more) w u h d = absurd (h.1 (subst IsWaitDone (sym h.0) d))

is_done : (step : WaitStep) → step ≡ Done Busy → IsWaitDone step
is_done step e = subst IsWaitDone (sym e) tt

busy : (taken : List Waited) (w u : LockWait) → RanWait taken w u → wait_step u ≡ Done Busy → ¬ IsWaitDone (wait_step w)
    → HasPast w.longest taken ⊎ (tries_in taken ≡ w.tries + 1)
busy [] w u h e n = absurd (n (is_done (wait_step w) (ap wait_step (sym h) ∙ e)))
busy (s ∷ more) w u h e n =
    let next = h.2.0 in
    let a : IsWaitAnswered w s.answer next = h.2.1 in
    let same : tries_of s.step ≡ tries_of (wait_step w) = ap tries_of h.0 in
    ⊎_elim
    (λ (d : IsWaitDone (wait_step next)).
    let end = stays more next u h.2.2 d in
    let said : wait_step next ≡ Done Busy = ap wait_step (sym end.0) ∙ e in
    let none : tries_in more ≡ 0 = end.1 in
    ⊎_elim (λ was. absurd (n (is_done (wait_step w) was)))
    (λ r. ⊎_elim (λ past. inl (inl (subst (λ x. IsPast w.longest x s.answer) (sym h.0) past)))
    (λ (it : (wait_step w ≡ Try) × (w.tries ≡ 0)). inr (let one : tries_of (wait_step w) ≡ 1 = ap tries_of it.0 in let zero_left : w.tries ≡ 0 = it.1 in omega arith)) r)
    (a.only said))
    (λ (m : ¬ IsWaitDone (wait_step next)).
    ⊎_elim (λ past. inl (inr (subst (λ l. HasPast l more) a.longest past)))
    (λ (rest : tries_in more ≡ next.tries + 1). ⊎_elim (λ d. absurd (m d)) (λ (one : next.tries + tries_of (wait_step w) ≡ w.tries). inr (omega arith)) a.tries)
    (busy more next u h.2.2 e m))
    (done_or_not (wait_step next))

over : (taken : List Waited) (w u : LockWait) → RanWait taken w u → HasPast w.longest taken → wait_step u ≡ Done Busy
over [] w u h p = absurd p
over (s ∷ more) w u h p =
    let next = h.2.0 in
    let a : IsWaitAnswered w s.answer next = h.2.1 in
    ⊎_elim
    (λ here. let said : wait_step next ≡ Done Busy = a.over (subst (λ x. IsPast w.longest x s.answer) h.0 here) in
    ap wait_step (stays more next u h.2.2 (is_done (wait_step next) said)).0 ∙ said)
    (λ later. over more next u h.2.2 (subst (λ l. HasPast l more) (sym a.longest) later)) p

-- ---- how many steps

counted : (taken : List Waited) (w u : LockWait) → RanWait taken w u → length taken + wait_left u ≤ wait_left w
counted [] w u h = (let same : wait_left u ≡ wait_left w = ap wait_left h in omega arith)
counted (s ∷ more) w u h =
    let rest : length more + wait_left u ≤ wait_left h.2.0 = counted more h.2.0 u h.2.2 in
    ⊎_elim (λ (d : IsWaitDone (wait_step w)). absurd (h.1 (subst IsWaitDone (sym h.0) d)))
    (λ (f : wait_left h.2.0 < wait_left w). omega arith) h.2.1.fewer

pub however_long_it_waits : HoweverLongItWaits
however_long_it_waits longest taken w u begun ran =
    let open_yet : ¬ IsWaitDone (wait_step w) = λ d. subst IsWaitDone begun.first d in
    record {
      first = first_is taken w u ran ∙ begun.first;
      order = ordered taken w u ran;
      had = λ e. ⊎_elim (λ (was : wait_step w ≡ Done Had). (let bad : Try ≡ Done Had = sym begun.first ∙ was in cc)) (λ got. got) (had taken w u ran e);
      busy = λ e. ⊎_elim (λ past. inl (subst (λ l. HasPast l taken) begun.longest_is past))
          (λ (all : tries_in taken ≡ w.tries + 1). inr (let t = begun.tries in all ∙ ap (λ n. n + 1) t)) (busy taken w u ran e open_yet);
      over = λ p. over taken w u ran (subst (λ l. HasPast l taken) (sym begun.longest_is) p);
      count = (let c : length taken + wait_left u ≤ wait_left w = counted taken w u ran in let l = begun.left in omega arith);
    }
