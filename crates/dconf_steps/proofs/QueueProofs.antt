-- What holds of the changes that wait after any answers.
use Rattle.std.proofs.Common.{ℕ, suc, ◌+◌, ◌*◌, ◌-◌, ◌<◌, ◌≤◌, ◌≡◌, ◌⊎◌, Bool, true, false, ◌&&◌, ◌||◌, cond, List, [], ◌∷◌, ◌++◌, length, map, Some, None, refl, sym, ◌∙◌, ap, subst, arith, ⊎_elim, inl, inr, ltb}
use Rattle.std.proofs.lemmas.Bool.{ltb-true, ltb-false, cases_Bool, or_parts}
use Rattle.dconf_steps.specs.declared.queue.QueuedEdit.{QueuedEdit}
use Rattle.dconf_steps.specs.declared.queue.Queue.{Queue}
use Rattle.dconf_steps.specs.declared.queue.QueueStage.{QueueStage}
use Rattle.dconf_steps.specs.declared.queue.QueueStage.TheVariants.{Taking, Asking, Over}
use Rattle.dconf_steps.specs.declared.queue.QueueEnd.{QueueEnd}
use Rattle.dconf_steps.specs.declared.queue.QueueEnd.TheVariants.{Written, Waiting}
use Rattle.dconf_steps.specs.declared.queue.QueueStep.{QueueStep}
use Rattle.dconf_steps.specs.declared.queue.QueueStep.TheVariants.{Take, Pass, Write, Ask, Done}
use Rattle.dconf_steps.specs.declared.queue.QueueAnswer.{QueueAnswer}
use Rattle.dconf_steps.specs.declared.queue.QueueAnswer.TheVariants.{Yes, Locked, Fault, Later}
use Rattle.dconf_steps.specs.Queues.{goes, is_locked, unmade, refused_for, marked, taking_step, asking_step, queue_step_at, queue_step, at_first, taking, after_key, after_write, queue_after_at, IsQueueAnswered}
use Rattle.dconf_steps.specs.QueueLaws.{TakenStep, IsQueueDone, RanQueue, is_refused, is_left_out, IsOwnFault, HasOwnFault, IsLockedReset, HasLockedReset, with_edit, going_first, going, written_of, written_by, unmarked, rounds, IsHeld, HasHeld, asked_of, WhateverIsWritten}
use Rattle.dconf_steps.proofs.EditLaws.{going_is, unmade_fewer, refused_for_fewer, unmade_length, refused_for_length, own_by, reset_by, marked_asked}

-- ---- what is refused, and what is left out

own : (taken : List TakenStep) (q u : Queue) (es after : List QueuedEdit) → RanQueue taken q es u after → (k : ℕ) → is_refused after k ≡ true → (is_refused es k ≡ true) ⊎ HasOwnFault k taken
own [] q u es after h k r = inl (subst (λ l. is_refused l k ≡ true) h.1 r)
own (s ∷ more) q u es after h k r =
    let a : IsQueueAnswered q es s.answer h.3.0 h.3.1 = h.3.2 in
    ⊎_elim (λ (before : is_refused h.3.1 k ≡ true). ⊎_elim (λ was. inl was)
    (λ it. inr (inl (subst (λ l. IsOwnFault k s.step l s.answer) (sym h.1) (subst (λ x. IsOwnFault k x es s.answer) (sym h.0) it))))
    (own_by es k (queue_step q es) s.answer (subst (λ l. is_refused l k ≡ true) a.edits_are before)))
    (λ later. inr (inr later)) (own more h.3.0 u h.3.1 after h.3.3 k r)

resets : (taken : List TakenStep) (q u : Queue) (es after : List QueuedEdit) → RanQueue taken q es u after → (k : ℕ) → is_left_out after k ≡ true → (is_left_out es k ≡ true) ⊎ HasLockedReset k taken
resets [] q u es after h k r = inl (subst (λ l. is_left_out l k ≡ true) h.1 r)
resets (s ∷ more) q u es after h k r =
    let a : IsQueueAnswered q es s.answer h.3.0 h.3.1 = h.3.2 in
    ⊎_elim (λ (before : is_left_out h.3.1 k ≡ true). ⊎_elim (λ was. inl was)
    (λ it. inr (inl (subst (λ l. IsLockedReset k s.step l s.answer) (sym h.1) (subst (λ x. IsLockedReset k x es s.answer) (sym h.0) it))))
    (reset_by es k (queue_step q es) s.answer (subst (λ l. is_left_out l k ≡ true) a.edits_are before)))
    (λ later. inr (inr later)) (resets more h.3.0 u h.3.1 after h.3.3 k r)

-- ---- at which step it is

stays : (taken : List TakenStep) (q u : Queue) (es after : List QueuedEdit) → RanQueue taken q es u after → IsQueueDone (queue_step q es) → (u ≡ q) × (after ≡ es) × (taken ≡ [])
stays [] q u es after h d = (h.0, h.1, refl)
stays (s ∷ more) q u es after h d = absurd (h.2 (subst IsQueueDone (sym h.0) d))

over_step : (q : Queue) (es : List QueuedEdit) (end : QueueEnd) → q.stage ≡ Over end → queue_step q es ≡ Done end
over_step q es end e = ap (λ x. queue_step_at x q.at es) e

over_at : (taken : List TakenStep) (q u : Queue) (es after : List QueuedEdit) (end : QueueEnd) → RanQueue taken q es u after → q ≡ at_first (Over end)
    → (queue_step u after ≡ Done end) × (after ≡ es) × (taken ≡ [])
over_at taken q u es after end h e =
    let step : queue_step q es ≡ Done end = over_step q es end (ap (λ x. x.stage) e) in
    let s = stays taken q u es after h (subst IsQueueDone (sym step) tt) in
    (ap (λ x. queue_step x after) s.0 ∙ ap (λ l. queue_step q l) s.1 ∙ step, s.1, s.2)

-- ---- what is written

-- what has been taken by now
abbrev Holds : QueueStage → Queue → List QueuedEdit → List ℕ → Type 0
Holds Taking q es held = (held ≡ going_first q.at es) × (q.at ≤ length es)
Holds Asking q es held = held ≡ []
Holds (Over end) q es held = ⊥

taking_not_done : (at : ℕ) (es : List QueuedEdit) (end : QueueEnd) → taking_step at es ≡ Done end → ⊥
taking_not_done at es end e = by (ltb at (length es)) (goes es at) e
  where
    by : (b c : Bool) → cond b (cond c (Take at) (Pass at)) Write ≡ Done end → ⊥
    by true true e = let bad : Take at ≡ Done end = e in cc
    by true false e = let bad : Pass at ≡ Done end = e in cc
    by false c e = let bad : Write ≡ Done end = e in cc

asking_not_done : (at : ℕ) (es : List QueuedEdit) (end : QueueEnd) → asking_step at es ≡ Done end → ⊥
asking_not_done at es end e = by (goes es at) e
  where
    by : (c : Bool) → cond c (Ask at) (Pass at) ≡ Done end → ⊥
    by true e = let bad : Ask at ≡ Done end = e in cc
    by false e = let bad : Pass at ≡ Done end = e in cc

not_over : (stage : QueueStage) (q : Queue) (es : List QueuedEdit) (held : List ℕ) (end : QueueEnd) → Holds stage q es held → queue_step_at stage q.at es ≡ Done end → ⊥
not_over Taking q es held end h e = taking_not_done q.at es end e
not_over Asking q es held end h e = asking_not_done q.at es end e
not_over (Over x) q es held end h e = h

-- what is written of later steps, where the queue is as this answer leaves it
abbrev Later_of : List TakenStep → Queue → Queue → List QueuedEdit → List QueuedEdit → Type 0
Later_of more next u then_are after = (held : List ℕ) → Holds next.stage next then_are held → queue_step u after ≡ Done Written → written_of more held ≡ Some (going after)

waiting_is_not_written : Done Waiting ≡ Done Written → ⊥
waiting_is_not_written e = cc

written_is_not_waiting : Done Written ≡ Done Waiting → ⊥
written_is_not_waiting e = cc

module _ (s : TakenStep) (more : List TakenStep) (q u next : Queue) (es then_are after : List QueuedEdit) (step_is : s.step ≡ queue_step q es)
    (a : IsQueueAnswered q es s.answer next then_are) (ran : RanQueue more next then_are u after) (later : Later_of more next u then_are after)
    (done : queue_step u after ≡ Done Written) where
  next_is : (stage : QueueStage) → q.stage ≡ stage → next ≡ queue_after_at stage q es s.answer
  next_is stage e = a.next ∙ ap (λ x. queue_after_at x q es s.answer) e

  step_at : (stage : QueueStage) → q.stage ≡ stage → s.step ≡ queue_step_at stage q.at es
  step_at stage e = step_is ∙ ap (λ x. queue_step_at x q.at es) e

  then_by : (step : QueueStep) → s.step ≡ step → then_are ≡ marked es step s.answer
  then_by step e = a.edits_are ∙ ap (λ x. marked es x s.answer) (sym step_is ∙ e)

  written_at : (held : List ℕ) (step : QueueStep) → s.step ≡ step → written_of (s ∷ more) held ≡ written_by step s.answer (written_of more) held
  written_at held step e = ap (λ x. written_by x s.answer (written_of more) held) e

  abbrev Goal : List ℕ → Type 0
  Goal held = written_of (s ∷ more) held ≡ Some (going after)

  -- an edit was taken, or passed over
  moved : (held : List ℕ) → q.stage ≡ Taking → held ≡ going_first q.at es → q.at < length es → next ≡ record q { at = q.at + 1 } → then_are ≡ es
      → written_of more (held ++ with_edit (goes es q.at) q.at) ≡ Some (going after)
  moved held t h lt n same =
      let stage_is : next.stage ≡ Taking = ap (λ x. x.stage) n ∙ t in
      let at_is : next.at ≡ q.at + 1 = ap (λ x. x.at) n in
      let suc_is : q.at + 1 ≡ suc q.at = omega arith in
      let all : held ++ with_edit (goes es q.at) q.at ≡ going_first (suc q.at) es = ap (λ l. l ++ with_edit (goes es q.at) q.at) h in
      let first : going_first (suc q.at) es ≡ going_first next.at then_are = ap (λ k. going_first k es) (sym (at_is ∙ suc_is)) ∙ ap (λ l. going_first next.at l) (sym same) in
      let within : next.at ≤ length then_are = subst (λ l. next.at ≤ length l) (sym same) (omega arith) in
      later (held ++ with_edit (goes es q.at) q.at) (subst (λ x. Holds x next then_are (held ++ with_edit (goes es q.at) q.at)) (sym stage_is) (all ∙ first, within)) done

  no_more : (l : List ℕ) → l ++ [] ≡ l
  no_more [] = refl
  no_more (x ∷ l) = ap (λ k. x ∷ k) (no_more l)

  one_taken : (held : List ℕ) → q.stage ≡ Taking → held ≡ going_first q.at es → q.at < length es → ltb q.at (length es) ≡ true → Goal held
  one_taken held t h lt b =
      let n : next ≡ record q { at = q.at + 1 } = next_is Taking t ∙ ap (λ x. cond x (record q { at = q.at + 1 }) (after_write es s.answer)) b in
      let stepped : s.step ≡ cond (goes es q.at) (Take q.at) (Pass q.at) = step_at Taking t ∙ ap (λ x. cond x (cond (goes es q.at) (Take q.at) (Pass q.at)) Write) b in
      ⊎_elim (λ (g : goes es q.at ≡ true).
      let is : s.step ≡ Take q.at = stepped ∙ ap (λ x. cond x (Take q.at) (Pass q.at)) g in
      written_at held (Take q.at) is ∙ ap (λ x. written_of more (held ++ with_edit x q.at)) (sym g) ∙ moved held t h lt n (then_by (Take q.at) is))
      (λ (g : goes es q.at ≡ false).
      let is : s.step ≡ Pass q.at = stepped ∙ ap (λ x. cond x (Take q.at) (Pass q.at)) g in
      written_at held (Pass q.at) is ∙ ap (λ l. written_of more l) (sym (no_more held)) ∙ ap (λ x. written_of more (held ++ with_edit x q.at)) (sym g) ∙ moved held t h lt n (then_by (Pass q.at) is))
      (cases_Bool (goes es q.at))

  -- it goes on from the first edit, or the first key
  anew : (stage : QueueStage) → next ≡ at_first stage → Holds stage (at_first stage) then_are [] → written_of more [] ≡ Some (going after)
  anew stage n h = later [] (subst (λ x. Holds x.stage x then_are []) (sym n) h) done

  gave_up : next ≡ at_first (Over Waiting) → ⊥
  gave_up n = waiting_is_not_written (sym (over_at more next u then_are after Waiting ran n).0 ∙ done)

  one_written : (held : List ℕ) (answer : QueueAnswer) → s.answer ≡ answer → held ≡ going_first (length es) es → s.step ≡ Write → next ≡ after_write es answer → Goal held
  one_written held Yes e h w n =
      let same : after ≡ es = (over_at more next u then_are after Written ran n).1 ∙ then_by Write w ∙ ap (λ x. marked es Write x) e in
      written_at held Write w ∙ ap (λ x. written_by Write x (written_of more) held) e ∙ ap (λ (l : List ℕ). Some l) (h ∙ ap going (sym same))
  one_written held Locked e h w n = written_at held Write w ∙ ap (λ x. written_by Write x (written_of more) held) e ∙ anew Asking n refl
  one_written held (Fault at) e h w n =
      written_at held Write w ∙ ap (λ x. written_by Write x (written_of more) held) e
      ∙ ⊎_elim (λ (g : goes es at ≡ true). anew Taking (n ∙ ap (λ x. cond x (at_first Taking) (at_first (Over Waiting))) g) (refl, omega arith))
      (λ (g : goes es at ≡ false). absurd (gave_up (n ∙ ap (λ x. cond x (at_first Taking) (at_first (Over Waiting))) g))) (cases_Bool (goes es at))
  one_written held Later e h w n = absurd (gave_up n)

  last_taken : (held : List ℕ) → q.stage ≡ Taking → held ≡ going_first q.at es → q.at ≤ length es → length es ≤ q.at → ltb q.at (length es) ≡ false → Goal held
  last_taken held t h le ge b =
      let all : q.at ≡ length es = omega arith in
      one_written held s.answer refl (h ∙ ap (λ k. going_first k es) all)
      (step_at Taking t ∙ ap (λ x. cond x (cond (goes es q.at) (Take q.at) (Pass q.at)) Write) b)
      (next_is Taking t ∙ ap (λ x. cond x (record q { at = q.at + 1 }) (after_write es s.answer)) b)

  -- a key was asked about, or passed over
  asked_on : (m : Bool) → q.stage ≡ Asking → next ≡ after_key q (length es) m → written_of more [] ≡ Some (going after)
  asked_on m t n = by (ltb (q.at + 1) (length es)) m n
    where
      by : (b k : Bool) → next ≡ cond b (record q { at = q.at + 1; has_marked = m }) (cond k (at_first Taking) (at_first (Over Waiting))) → written_of more [] ≡ Some (going after)
      by true k n = later [] (subst (λ x. Holds x next then_are []) (sym (ap (λ x. x.stage) n ∙ t)) refl) done
      by false true n = anew Taking n (refl, omega arith)
      by false false n = absurd (gave_up n)

  key_step : (held : List ℕ) → held ≡ [] → s.step ≡ asking_step q.at es → Goal held → Goal held
  key_step held h e g = g

  one_asked : (held : List ℕ) → q.stage ≡ Asking → held ≡ [] → Goal held
  one_asked held t h =
      let stepped : s.step ≡ cond (goes es q.at) (Ask q.at) (Pass q.at) = step_at Asking t in
      let rest = asked_on (q.has_marked || (goes es q.at && is_locked s.answer)) t (next_is Asking t) in
      ⊎_elim (λ (g : goes es q.at ≡ true). written_at held (Ask q.at) (stepped ∙ ap (λ x. cond x (Ask q.at) (Pass q.at)) g) ∙ ap (λ l. written_of more l) h ∙ rest)
      (λ (g : goes es q.at ≡ false). written_at held (Pass q.at) (stepped ∙ ap (λ x. cond x (Ask q.at) (Pass q.at)) g) ∙ ap (λ l. written_of more l) h ∙ rest)
      (cases_Bool (goes es q.at))

  written_one : (stage : QueueStage) (held : List ℕ) → q.stage ≡ stage → Holds stage q es held → Goal held
  written_one Taking held t h =
      ⊎_elim (λ (b : ltb q.at (length es) ≡ true). one_taken held t h.0 (ltb-true q.at (length es) b) b)
      (λ (b : ltb q.at (length es) ≡ false). last_taken held t h.0 h.1 (ltb-false q.at (length es) b) b) (cases_Bool (ltb q.at (length es)))
  written_one Asking held t h = one_asked held t h
  written_one (Over end) held t h = absurd h

written : (taken : List TakenStep) (q u : Queue) (es after : List QueuedEdit) → RanQueue taken q es u after → (held : List ℕ) → Holds q.stage q es held → queue_step u after ≡ Done Written
    → written_of taken held ≡ Some (going after)
written [] q u es after h held k done =
    absurd (not_over q.stage q es held Written k (sym (ap (λ x. queue_step x after) h.0 ∙ ap (λ l. queue_step q l) h.1) ∙ done))
written (s ∷ more) q u es after h held k done =
    written_one s more q u h.3.0 es h.3.1 after h.0 h.3.2 h.3.3 (λ l x d. written more h.3.0 u h.3.1 after h.3.3 l x d) done q.stage held refl k

-- ---- that nothing is written

write_at : (q : Queue) (es : List QueuedEdit) → queue_step q es ≡ Write → queue_after_at q.stage q es Yes ≡ at_first (Over Written)
write_at q es e = by q.stage e
  where
    take_by : (b c : Bool) → cond b (cond c (Take q.at) (Pass q.at)) Write ≡ Write → cond b (record q { at = q.at + 1 }) (at_first (Over Written)) ≡ at_first (Over Written)
    take_by true true e = let bad : Take q.at ≡ Write = e in cc
    take_by true false e = let bad : Pass q.at ≡ Write = e in cc
    take_by false c e = refl

    ask_by : (c : Bool) → cond c (Ask q.at) (Pass q.at) ≡ Write → ⊥
    ask_by true e = let bad : Ask q.at ≡ Write = e in cc
    ask_by false e = let bad : Pass q.at ≡ Write = e in cc

    by : (stage : QueueStage) → queue_step_at stage q.at es ≡ Write → queue_after_at stage q es Yes ≡ at_first (Over Written)
    by Taking e = take_by (ltb q.at (length es)) (goes es q.at) e
    by Asking e = absurd (ask_by (goes es q.at) e)
    by (Over end) e = let bad : Done end ≡ Write = e in cc

module _ (q next : Queue) (es then_are : List QueuedEdit) where
  unwritten_by : (held : List ℕ) (step : QueueStep) (answer : QueueAnswer) (more : List TakenStep) → (step ≡ Write → answer ≡ Yes → ⊥) → ((l : List ℕ) → written_of more l ≡ None)
      → written_by step answer (written_of more) held ≡ None
  unwritten_by held (Take at) answer more n r = r (held ++ at ∷ [])
  unwritten_by held Write Yes more n r = absurd (n refl refl)
  unwritten_by held Write _ more n r = r []
  unwritten_by held _ answer more n r = r held

unwritten : (taken : List TakenStep) (q u : Queue) (es after : List QueuedEdit) → RanQueue taken q es u after → queue_step u after ≡ Done Waiting → (held : List ℕ) → written_of taken held ≡ None
unwritten [] q u es after h w held = refl
unwritten (s ∷ more) q u es after h w held =
    let next = h.3.0 in
    let a : IsQueueAnswered q es s.answer next h.3.1 = h.3.2 in
    unwritten_by q next es h.3.1 held s.step s.answer more
    (λ step yes. (let n : next ≡ at_first (Over Written) = a.next ∙ ap (λ x. queue_after_at q.stage q es x) yes ∙ write_at q es (sym h.0 ∙ step) in
    written_is_not_waiting (sym (over_at more next u h.3.1 after Written h.3.3 n).0 ∙ w)))
    (λ l. unwritten more next u h.3.1 after h.3.3 w l)

-- ---- what nothing is written for

-- where it stands, and nothing is written in the end
abbrev Waits : QueueStage → Queue → List QueuedEdit → List QueuedEdit → List TakenStep → Type 0
Waits Taking q es after taken = HasHeld after taken
Waits Asking q es after taken = HasHeld after taken ⊎ ((q.has_marked ≡ false) × (after ≡ es))
Waits (Over end) q es after taken = Unit {0}

nothing_marked : (es : List QueuedEdit) (at : ℕ) (answer : QueueAnswer) → (goes es at && is_locked answer) ≡ false → marked es (asking_step at es) answer ≡ es
nothing_marked es at answer e = by (goes es at) answer e
  where
    by : (c : Bool) (answer : QueueAnswer) → (c && is_locked answer) ≡ false → marked es (cond c (Ask at) (Pass at)) answer ≡ es
    by false answer e = refl
    by true Locked e = let bad : true ≡ false = e in cc
    by true Yes e = refl
    by true (Fault i) e = refl
    by true Later e = refl

module _ (s : TakenStep) (more : List TakenStep) (q u next : Queue) (es then_are after : List QueuedEdit) (step_is : s.step ≡ queue_step q es) (edits_are : s.edits ≡ es)
    (a : IsQueueAnswered q es s.answer next then_are) (ran : RanQueue more next then_are u after) (later : Waits next.stage next then_are after more)
    (waits : queue_step u after ≡ Done Waiting) where
  abbrev Held : Type 0
  Held = HasHeld after (s ∷ more)

  here : (answer : QueueAnswer) → s.step ≡ Write → s.answer ≡ answer → IsHeld after Write es answer → Held
  here answer w e h =
      inl (subst (λ x. IsHeld after x s.edits s.answer) (sym w) (subst (λ l. IsHeld after Write l s.answer) (sym edits_are) (subst (λ x. IsHeld after Write es x) (sym e) h)))

  again : (stage : QueueStage) → next.stage ≡ stage → Waits stage next then_are after more
  again stage e = subst (λ x. Waits x next then_are after more) e later

  by_answer : (answer : QueueAnswer) → s.answer ≡ answer → s.step ≡ Write → next ≡ after_write es answer → then_are ≡ marked es Write answer → Held
  by_answer Yes e w n t = absurd (written_is_not_waiting (sym (over_at more next u then_are after Written ran n).0 ∙ waits))
  by_answer Later e w n t = here Later w e tt
  by_answer Locked e w n t =
      ⊎_elim (λ found. inr found) (λ (none : (next.has_marked ≡ false) × (after ≡ then_are)). here Locked w e (none.1 ∙ t)) (again Asking (ap (λ x. x.stage) n))
  by_answer (Fault at) e w n t =
      ⊎_elim (λ (g : goes es at ≡ true). inr (again Taking (ap (λ x. x.stage) (n ∙ ap (λ x. cond x (at_first Taking) (at_first (Over Waiting))) g))))
      (λ (g : goes es at ≡ false). here (Fault at) w e g) (cases_Bool (goes es at))

  held_taking : q.stage ≡ Taking → Held
  held_taking t = by (ltb q.at (length es)) refl
    where
      stepped : s.step ≡ taking_step q.at es
      stepped = step_is ∙ ap (λ x. queue_step_at x q.at es) t

      next_is : next ≡ queue_after_at Taking q es s.answer
      next_is = a.next ∙ ap (λ x. queue_after_at x q es s.answer) t

      by : (b : Bool) → ltb q.at (length es) ≡ b → Held
      by true e = inr (again Taking (ap (λ x. x.stage) (next_is ∙ ap (λ x. cond x (record q { at = q.at + 1 }) (after_write es s.answer)) e) ∙ t))
      by false e =
          let w : s.step ≡ Write = stepped ∙ ap (λ x. cond x (cond (goes es q.at) (Take q.at) (Pass q.at)) Write) e in
          by_answer s.answer refl w (next_is ∙ ap (λ x. cond x (record q { at = q.at + 1 }) (after_write es s.answer)) e)
          (a.edits_are ∙ ap (λ x. marked es x s.answer) (sym step_is ∙ w))

  held_asking : q.stage ≡ Asking → Held ⊎ ((q.has_marked ≡ false) × (after ≡ es))
  held_asking t = by (ltb (q.at + 1) (length es)) (q.has_marked || (goes es q.at && is_locked s.answer)) refl next_is
    where
      next_is : next ≡ queue_after_at Asking q es s.answer
      next_is = a.next ∙ ap (λ x. queue_after_at x q es s.answer) t

      none : (q.has_marked || (goes es q.at && is_locked s.answer)) ≡ false → after ≡ then_are → Held ⊎ ((q.has_marked ≡ false) × (after ≡ es))
      none m e = inr (
        (or_parts q.has_marked (goes es q.at && is_locked s.answer) m).0,
        e ∙ a.edits_are ∙ ap (λ x. marked es (queue_step_at x q.at es) s.answer) t ∙ nothing_marked es q.at s.answer (or_parts q.has_marked (goes es q.at && is_locked s.answer) m).1,
      )

      by : (b k : Bool) → (q.has_marked || (goes es q.at && is_locked s.answer)) ≡ k
          → next ≡ cond b (record q { at = q.at + 1; has_marked = k }) (cond k (at_first Taking) (at_first (Over Waiting))) → Held ⊎ ((q.has_marked ≡ false) × (after ≡ es))
      by true k m n =
          ⊎_elim (λ found. inl (inr found)) (λ (r : (next.has_marked ≡ false) × (after ≡ then_are)). none (m ∙ sym (ap (λ x. x.has_marked) n) ∙ r.0) r.1)
          (again Asking (ap (λ x. x.stage) n ∙ t))
      by false true m n = inl (inr (again Taking (ap (λ x. x.stage) n)))
      by false false m n = none m (over_at more next u then_are after Waiting ran n).1

  held_at : (stage : QueueStage) → q.stage ≡ stage → Waits stage q es after (s ∷ more)
  held_at Taking t = held_taking t
  held_at Asking t = held_asking t
  held_at (Over end) t = tt

not_waiting : (stage : QueueStage) (q : Queue) (es after : List QueuedEdit) → queue_step_at stage q.at es ≡ Done Waiting → Waits stage q es after []
not_waiting Taking q es after e = absurd (taking_not_done q.at es Waiting e)
not_waiting Asking q es after e = absurd (asking_not_done q.at es Waiting e)
not_waiting (Over end) q es after e = tt

held : (taken : List TakenStep) (q u : Queue) (es after : List QueuedEdit) → RanQueue taken q es u after → queue_step u after ≡ Done Waiting → Waits q.stage q es after taken
held [] q u es after h w = not_waiting q.stage q es after (sym (ap (λ x. queue_step x after) h.0 ∙ ap (λ l. queue_step q l) h.1) ∙ w)
held (s ∷ more) q u es after h w =
    held_at s more q u h.3.0 es h.3.1 after h.0 h.1 h.3.2 h.3.3 (held more h.3.0 u h.3.1 after h.3.3 w) w q.stage refl

asked : (taken : List TakenStep) (q u : Queue) (es after : List QueuedEdit) → RanQueue taken q es u after → map asked_of after ≡ map asked_of es
asked [] q u es after h = ap (λ l. map asked_of l) h.1
asked (s ∷ more) q u es after h =
    let a : IsQueueAnswered q es s.answer h.3.0 h.3.1 = h.3.2 in
    asked more h.3.0 u h.3.1 after h.3.3 ∙ ap (λ l. map asked_of l) a.edits_are ∙ marked_asked es (queue_step q es) s.answer

-- ---- how many steps

abbrev extra : Bool → ℕ → ℕ
extra true count = 2 * count + 2
extra false count = 0

abbrev left_at : QueueStage → ℕ → Bool → List QueuedEdit → ℕ
left_at Taking at has_marked es = (length es - at) + 1 + (length es + 1) + rounds (unmarked es) (length es)
left_at Asking at has_marked es = (length es - at) + 1 + extra has_marked (length es) + rounds (unmarked es) (length es)
left_at (Over end) at has_marked es = 0

abbrev left_of : Queue → List QueuedEdit → ℕ
left_of q es = left_at q.stage q.at q.has_marked es

round_less : (then_are es : List QueuedEdit) → length then_are ≡ length es → unmarked then_are + 1 ≡ unmarked es
    → rounds (unmarked es) (length es) ≡ 2 * length es + 2 + rounds (unmarked then_are) (length then_are)
round_less then_are es l u =
    let s : unmarked es ≡ suc (unmarked then_are) = omega arith in
    ap (λ n. rounds n (length es)) s ∙ ap (λ n. 2 * length es + 2 + rounds (unmarked then_are) n) (sym l)

module _ (q : Queue) (es then_are : List QueuedEdit) where
  abbrev same_left : Type 0
  same_left = then_are ≡ es

  take_less : ltb q.at (length es) ≡ true → left_at Taking (q.at + 1) q.has_marked es < left_at Taking q.at q.has_marked es
  take_less b = let lt : q.at < length es = ltb-true q.at (length es) b in omega arith

  over_less : (end : QueueEnd) → left_of (at_first (Over end)) then_are < left_at Taking q.at q.has_marked es
  over_less end = omega arith

  ask_less : left_of (at_first Asking) es < left_at Taking q.at q.has_marked es
  ask_less = omega arith

  fault_less : length then_are ≡ length es → unmarked then_are + 1 ≡ unmarked es → left_of (at_first Taking) then_are < left_at Taking q.at q.has_marked es
  fault_less l u = let r = round_less then_are es l u in omega arith

  -- a key was marked
  key_marks : length then_are ≡ length es → unmarked then_are + 1 ≡ unmarked es → ltb (q.at + 1) (length es) ≡ true
      → left_at Asking (q.at + 1) true then_are < left_at Asking q.at q.has_marked es
  key_marks l u b = let r = round_less then_are es l u in let lt : q.at + 1 < length es = ltb-true (q.at + 1) (length es) b in omega arith

  last_marks : length then_are ≡ length es → unmarked then_are + 1 ≡ unmarked es → left_of (at_first Taking) then_are < left_at Asking q.at q.has_marked es
  last_marks l u = let r = round_less then_are es l u in omega arith

  -- a key was not
  key_stays : (m : Bool) → ltb (q.at + 1) (length es) ≡ true → left_at Asking (q.at + 1) m es < left_at Asking q.at m es
  key_stays m b = let lt : q.at + 1 < length es = ltb-true (q.at + 1) (length es) b in omega arith

  last_again : left_of (at_first Taking) es < left_at Asking q.at true es
  last_again = omega arith

  last_over : (m : Bool) (end : QueueEnd) → left_of (at_first (Over end)) es < left_at Asking q.at m es
  last_over m end = omega arith

-- fewer are left after each answer
module _ (q : Queue) (es : List QueuedEdit) where
  abbrev Less : Queue → List QueuedEdit → QueueStage → Type 0
  Less next then_are stage = left_of next then_are < left_at stage q.at q.has_marked es

  write_less : (answer : QueueAnswer) → Less (after_write es answer) (marked es Write answer) Taking
  write_less Yes = over_less q es es Written
  write_less Later = over_less q es es Waiting
  write_less Locked = ask_less q es es
  write_less (Fault at) =
      ⊎_elim (λ (g : goes es at ≡ true). subst (λ x. Less x (refused_for es at) Taking) (sym (ap (λ x. cond x (at_first Taking) (at_first (Over Waiting))) g))
      (fault_less q es (refused_for es at) (refused_for_length es at) (refused_for_fewer es at (going_is es at g) g)))
      (λ (g : goes es at ≡ false). subst (λ x. Less x (refused_for es at) Taking) (sym (ap (λ x. cond x (at_first Taking) (at_first (Over Waiting))) g))
      (over_less q es (refused_for es at) Waiting)) (cases_Bool (goes es at))

  taking_less : (answer : QueueAnswer) → q.stage ≡ Taking → Less (queue_after_at Taking q es answer) (marked es (taking_step q.at es) answer) Taking
  taking_less answer t = by (ltb q.at (length es)) (goes es q.at) refl
    where
      moved_stage : left_of (record q { at = q.at + 1 }) es ≡ left_at Taking (q.at + 1) q.has_marked es
      moved_stage = ap (λ x. left_at x (q.at + 1) q.has_marked es) t

      moved : ltb q.at (length es) ≡ true → Less (record q { at = q.at + 1 }) es Taking
      moved b = (let less = take_less q es es b in let e = moved_stage in omega arith)

      by : (b c : Bool) → ltb q.at (length es) ≡ b → Less (cond b (record q { at = q.at + 1 }) (after_write es answer)) (marked es (cond b (cond c (Take q.at) (Pass q.at)) Write) answer) Taking
      by true true e = moved e
      by true false e = moved e
      by false c e = write_less answer

  asking_stage : (m : Bool) (l : List QueuedEdit) → q.stage ≡ Asking → left_of (record q { at = q.at + 1; has_marked = m }) l ≡ left_at Asking (q.at + 1) m l
  asking_stage m l t = ap (λ x. left_at x (q.at + 1) m l) t

  -- where a key was marked
  marks_less : (then_are : List QueuedEdit) → q.stage ≡ Asking → length then_are ≡ length es → unmarked then_are + 1 ≡ unmarked es → Less (after_key q (length es) true) then_are Asking
  marks_less then_are t l u = by (ltb (q.at + 1) (length es)) refl
    where
      by : (b : Bool) → ltb (q.at + 1) (length es) ≡ b → Less (cond b (record q { at = q.at + 1; has_marked = true }) (at_first Taking)) then_are Asking
      by true e = (let less = key_marks q es then_are l u e in let s = asking_stage true then_are t in omega arith)
      by false e = last_marks q es then_are l u

  -- where it was not
  stays_less : (m : Bool) → q.stage ≡ Asking → q.has_marked ≡ m → Less (after_key q (length es) m) es Asking
  stays_less m t h = subst (λ x. left_of (after_key q (length es) m) es < left_at Asking q.at x es) (sym h) (by (ltb (q.at + 1) (length es)) m refl)
    where
      by : (b k : Bool) → ltb (q.at + 1) (length es) ≡ b → left_of (cond b (record q { at = q.at + 1; has_marked = k }) (cond k (at_first Taking) (at_first (Over Waiting)))) es < left_at Asking q.at k es
      by true k e = (let less = key_stays q es es k e in let s = asking_stage k es t in omega arith)
      by false true e = last_again q es es
      by false false e = last_over q es es false Waiting

  or_false : (m : Bool) → (m || false) ≡ m
  or_false true = refl
  or_false false = refl

  or_true : (m : Bool) → (m || true) ≡ true
  or_true true = refl
  or_true false = refl

  locked_marks : q.stage ≡ Asking → goes es q.at ≡ true → Less (after_key q (length es) (q.has_marked || true)) (unmade es q.at) Asking
  locked_marks t g =
      subst (λ m. Less (after_key q (length es) m) (unmade es q.at) Asking) (sym (or_true q.has_marked))
      (marks_less (unmade es q.at) t (unmade_length es q.at) (unmade_fewer es q.at (going_is es q.at g)))

  free_stays : q.stage ≡ Asking → Less (after_key q (length es) (q.has_marked || false)) es Asking
  free_stays t = subst (λ m. Less (after_key q (length es) m) es Asking) (sym (or_false q.has_marked)) (stays_less q.has_marked t refl)

  asking_less : (answer : QueueAnswer) → q.stage ≡ Asking → Less (queue_after_at Asking q es answer) (marked es (asking_step q.at es) answer) Asking
  asking_less answer t = by (goes es q.at) answer refl
    where
      by : (c : Bool) (answer : QueueAnswer) → goes es q.at ≡ c → Less (after_key q (length es) (q.has_marked || (c && is_locked answer))) (marked es (cond c (Ask q.at) (Pass q.at)) answer) Asking
      by true Locked e = locked_marks t e
      by true Yes e = free_stays t
      by true (Fault i) e = free_stays t
      by true Later e = free_stays t
      by false answer e = free_stays t

  fewer : (answer : QueueAnswer) (stage : QueueStage) → q.stage ≡ stage → ¬ IsQueueDone (queue_step_at stage q.at es)
      → Less (queue_after_at stage q es answer) (marked es (queue_step_at stage q.at es) answer) stage
  fewer answer Taking t d = taking_less answer t
  fewer answer Asking t d = asking_less answer t
  fewer answer (Over end) t d = absurd (d tt)

counted : (taken : List TakenStep) (q u : Queue) (es after : List QueuedEdit) → RanQueue taken q es u after → length taken ≤ left_of q es
counted [] q u es after h = omega arith
counted (s ∷ more) q u es after h =
    let next = h.3.0 in
    let a : IsQueueAnswered q es s.answer next h.3.1 = h.3.2 in
    let rest : length more ≤ left_of next h.3.1 = counted more next u h.3.1 after h.3.3 in
    let same : left_of next h.3.1 ≡ left_of (queue_after_at q.stage q es s.answer) (marked es (queue_step q es) s.answer) = ap (λ x. left_of x h.3.1) a.next ∙ ap (λ l. left_of (queue_after_at q.stage q es s.answer) l) a.edits_are in
    let less : left_of (queue_after_at q.stage q es s.answer) (marked es (queue_step q es) s.answer) < left_of q es = less_of q es s.answer (λ d. h.2 (subst IsQueueDone (sym h.0) d)) in
    omega arith
  where
    less_of : (q : Queue) (es : List QueuedEdit) (answer : QueueAnswer) → ¬ IsQueueDone (queue_step q es) → left_of (queue_after_at q.stage q es answer) (marked es (queue_step q es) answer) < left_of q es
    less_of q es answer d = fewer q es answer q.stage refl d

pub whatever_is_written : WhateverIsWritten
whatever_is_written taken u es after ran = record {
  own = λ k r. own taken taking u es after ran k r;
  resets = λ k r. resets taken taking u es after ran k r;
  written = λ d. written taken taking u es after ran [] (refl, omega arith) d;
  waiting = λ w. unwritten taken taking u es after ran w [];
  held = λ w. held taken taking u es after ran w;
  asked = asked taken taking u es after ran;
  count = (let c : length taken ≤ left_of taking es = counted taken taking u es after ran in first c);
}
  where
    first : length taken ≤ left_of taking es → length taken ≤ rounds (unmarked es + 1) (length es)
    first c = let s : unmarked es + 1 ≡ suc (unmarked es) = omega arith in let e : rounds (unmarked es + 1) (length es) ≡ 2 * length es + 2 + rounds (unmarked es) (length es) = ap (λ n. rounds n (length es)) s in omega arith
