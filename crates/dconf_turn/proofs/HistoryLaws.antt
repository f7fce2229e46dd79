-- What holds of a turn after any steps and answers.
use Rattle.std.proofs.Common.{ℕ, zero, suc, ◌+◌, ◌-◌, ◌<◌, ◌≤◌, ◌≡◌, ◌⊎◌, Bool, true, false, List, [], ◌∷◌, length, refl, sym, ◌∙◌, ap, subst, arith, ⊎_elim, inl, inr}
use Rattle.std.specs.Bool.{IsTrue}
use Rattle.dconf_model.specs.Folders.{Event}
use Rattle.dconf_turn.specs.declared.turn.Turn.{Turn}
use Rattle.dconf_turn.specs.declared.turn.State.{State}
use Rattle.dconf_turn.specs.declared.turn.State.TheVariants.{Locking, Reading, Making, Creating, Writing, Syncing, SettingAside, Exchanging, Renaming, SyncingFolder, Removing, Settling, Noting, Unlocking, Over}
use Rattle.dconf_turn.specs.declared.step.Outcome.{Outcome}
use Rattle.dconf_turn.specs.declared.step.Outcome.TheVariants.{Made, Kept, Either, Unsettled, Same, Unsynced}
use Rattle.dconf_turn.specs.declared.step.Step.{Step}
use Rattle.dconf_turn.specs.declared.step.Step.TheVariants.{Lock, Read, Make, Create, Append, Sync, SetAside, Exchange, Rename, SyncFolder, Remove, Settle, Note, Unlock, Done}
use Rattle.dconf_turn.specs.declared.step.Answer.{Answer}
use Rattle.dconf_turn.specs.declared.step.Answer.TheVariants.{Yes, No}
use Rattle.dconf_turn.specs.Jobs.{Job, IsOwn, IsLockApart}
use Rattle.dconf_turn.specs.Steps.{place, step_at, step_of, steps_left, Follows, GoesOn, GoesOnWriting, EndsWell, IsSaid, IsYes, IsFault, IsDone, IsRead, IsRefusal, IsAsked, KnowsAfter}
use Rattle.dconf_turn.specs.Hosts.{DidStep}
use Rattle.dconf_turn.specs.Sayings.{IsKept, IsWhole, Says}
use Rattle.dconf_turn.specs.Progress.{Apart, StandsAt, Stands, IsEarly, IsCleared, IsBegun, IsAnswered}
use Rattle.dconf_turn.specs.Histories.{Taken, RanSteps, first_of, AreInOrder, HasDone, HasFault, HasRefusal, HasAsked, IsUnwritten, WhateverIsAnswered}
use Rattle.dconf_turn.proofs.SayingLaws.{kept, early_apart, kept_whole, placed_whole, whole_of}

-- ---- at any moment

module _ (t : Turn) (job : Job) (old es : List Event) (apart : IsLockApart job) where
  where_apart : Apart old es (IsOwn t.keeps job old) → IsWhole t.keeps job old es
  where_apart a = kept_whole t.keeps job old es apart (kept t.keeps job old es a)

  where_early : IsEarly job old es → IsWhole t.keeps job old es
  where_early e = where_apart (early_apart t.keeps job old es e)

  safe_at : (s : State) → StandsAt s t job old es → IsWhole t.keeps job old es
  safe_at Locking h = where_early (inl h)
  safe_at Reading h = where_early h
  safe_at Making h = where_early h
  safe_at Creating h = where_early h.0
  safe_at Writing h = where_apart h.0.apart
  safe_at Syncing h = where_apart h.apart
  safe_at SettingAside h = where_apart h.0.holds.apart
  safe_at Exchanging h = where_apart h.0.holds.apart
  safe_at Renaming h = where_apart h.0.holds.apart
  safe_at SyncingFolder h = placed_whole t.keeps job old es h.0 h.2
  safe_at Removing h = whole_of t.keeps t.outcome job old es apart h
  safe_at Settling h = where_early h
  safe_at Noting h = whole_of t.keeps t.outcome job old es apart h.0
  safe_at Unlocking h = whole_of t.keeps t.outcome job old es apart h.0
  safe_at Over h = whole_of t.keeps t.outcome job old es apart h.0

abbrev End : Turn → Job → List Event → List Event → Outcome → Type 0
End t job old es outcome = Says t.keeps outcome job old es × IsCleared t job old es

is_over : (t : Turn) (s : State) (outcome : Outcome) → step_at s t ≡ Done outcome → s ≡ Over
is_over t Over outcome e = refl
is_over t Locking outcome e = cc
is_over t Reading outcome e = cc
is_over t Making outcome e = cc
is_over t Creating outcome e = cc
is_over t Writing outcome e = cc
is_over t Syncing outcome e = cc
is_over t SettingAside outcome e = cc
is_over t Exchanging outcome e = cc
is_over t Renaming outcome e = cc
is_over t SyncingFolder outcome e = cc
is_over t Removing outcome e = cc
is_over t Settling outcome e = cc
is_over t Noting outcome e = cc
is_over t Unlocking outcome e = cc

-- what is said at the end is what the turn holds
pub done_is : (t : Turn) (s : State) (outcome : Outcome) → step_at s t ≡ Done outcome → t.outcome ≡ outcome
done_is t s outcome e = let over : Done t.outcome ≡ Done outcome = subst (λ x. step_at x t ≡ Done outcome) (is_over t s outcome e) e in cc

pub end_at : (t : Turn) (job : Job) (old es : List Event) (s : State) (outcome : Outcome) → StandsAt s t job old es → step_at s t ≡ Done outcome → End t job old es outcome
end_at t job old es s outcome h e =
    let k : End t job old es t.outcome = subst (λ x. StandsAt x t job old es) (is_over t s outcome e) h in
    subst (λ o. End t job old es o) (done_is t s outcome e) k

-- ---- after any steps

record Came (taken : List Taken) (t u : Turn) (job : Job) (old now : List Event) : Type 0 where
  stands : Stands u job old now
  order : AreInOrder taken u
  count : length taken + steps_left u (length job.bytes) ≤ steps_left t (length job.bytes)
  leaves : IsTrue u.leaves_new → IsTrue t.leaves_new ⊎ HasRefusal taken
  keeps : IsTrue u.keeps → IsTrue t.keeps ⊎ HasAsked taken

first_is : (taken : List Taken) (t u : Turn) (job : Job) (es now : List Event) → RanSteps taken t u job es now → first_of taken u ≡ step_of t
first_is [] t u job es now h = ap step_of h.0
first_is (s ∷ more) t u job es now h = h.0

-- what is to be set aside was asked for
read_asked : (n : ℕ) (bits : _) (keeps : Bool) → IsRead n bits keeps → IsTrue keeps → (511 < n) × (n < 1024)
read_asked n bits keeps r k =
    let low : ¬ (n < 512) = λ lt. (let bad : false ≡ true = sym (r.file lt).1 ∙ k in cc) in
    let high : ¬ (1023 < n) = λ lt. (let bad : false ≡ true = sym (r.absent lt).1 ∙ k in cc) in
    (omega (arith, low), omega (arith, high))

asked_by : (step : Step) (answer : Answer) (t u : Turn) → KnowsAfter step answer t u → IsTrue u.keeps → IsTrue t.keeps ⊎ IsAsked step answer
asked_by Read (Yes n) t u k h = inr (read_asked n u.bits u.keeps k h)
asked_by Read (No f) t u k h = inl (sym k.1 ∙ h)
asked_by Lock answer t u k h = inl (sym k.1 ∙ h)
asked_by Make answer t u k h = inl (sym k.1 ∙ h)
asked_by (Create m) answer t u k h = inl (sym k.1 ∙ h)
asked_by (Append at) answer t u k h = inl (sym k.1 ∙ h)
asked_by (Sync b) answer t u k h = inl (sym k.1 ∙ h)
asked_by SetAside answer t u k h = inl (sym k.1 ∙ h)
asked_by Exchange answer t u k h = inl (sym k.1 ∙ h)
asked_by Rename answer t u k h = inl (sym k.1 ∙ h)
asked_by SyncFolder answer t u k h = inl (sym k.1 ∙ h)
asked_by Remove answer t u k h = inl (sym k.1 ∙ h)
asked_by Settle answer t u k h = inl (sym k.1 ∙ h)
asked_by Note answer t u k h = inl (sym k.1 ∙ h)
asked_by Unlock answer t u k h = inl (sym k.1 ∙ h)
asked_by (Done o) answer t u k h = inl (sym k.1 ∙ h)

came : (taken : List Taken) (t u : Turn) (job : Job) (old es now : List Event) → IsLockApart job → Stands t job old es → RanSteps taken t u job es now → Came taken t u job old now
came [] t u job old es now apart k h = record {
  stands = subst (λ x. Stands x job old now) (sym h.0) (subst (λ l. Stands t job old l) (sym h.1) k);
  order = tt;
  count = (let same : steps_left u (length job.bytes) ≡ steps_left t (length job.bytes) = ap (λ x. steps_left x (length job.bytes)) h.0 in omega arith);
  leaves = λ l. inl (subst (λ x. IsTrue x.leaves_new) h.0 l);
  keeps = λ l. inl (subst (λ x. IsTrue x.keeps) h.0 l);
}
came (s ∷ more) t u job old es now apart k h =
    let next = h.3.0 in
    let a : IsAnswered t s.answer next = h.3.1 in
    let did : DidStep (step_of t) s.answer job es s.now = subst (λ x. DidStep x s.answer job es s.now) h.0 h.2 in
    let rest = came more next u job old s.now now apart (a.stands job old es s.now apart k did) h.3.2 in
    let then_is : step_of next ≡ first_of more u = sym (first_is more next u job s.now now h.3.2) in
    record {
      stands = rest.stands;
      order = (
        subst (λ x. Follows x (first_of more u)) (sym h.0) (subst (λ x. Follows (step_of t) x) then_is a.order),
        subst (λ x. EndsWell x s.answer (first_of more u)) (sym h.0) (subst (λ x. EndsWell (step_of t) s.answer x) then_is a.ends),
        rest.order,
      );
      count = ⊎_elim (λ (d : IsDone (step_of t)). absurd (h.1 (subst IsDone (sym h.0) d)))
          (λ (f : steps_left next (length job.bytes) < steps_left t (length job.bytes)). let r = rest.count in omega arith) (a.fewer job old es s.now k did);
      leaves = λ l. ⊎_elim (λ before. ⊎_elim (λ was. inl was) (λ now_it. inr (inl (subst (λ x. IsRefusal x s.answer) (sym h.0) now_it))) (a.leaves before))
          (λ later. inr (inr later)) (rest.leaves l);
      keeps = λ l. ⊎_elim (λ before. ⊎_elim (λ was. inl was) (λ now_it. inr (inl (subst (λ x. IsAsked x s.answer) (sym h.0) now_it))) (asked_by (step_of t) s.answer t next a.knows before))
          (λ later. inr (inr later)) (rest.keeps l);
    }

-- ---- what was asked

-- made is said from the folder's sync on
made_by : (step : Step) (answer : Answer) (before said : Outcome) → IsSaid step answer before said → said ≡ Made → (before ≡ Made) ⊎ ((place step ≡ 9) × IsYes answer)
made_by Lock (Yes n) before said s m = inl (sym s ∙ m)
made_by Lock (No f) before said s m = let bad : Kept f ≡ Made = sym s ∙ m in cc
made_by Read (Yes n) before said s m = inl (sym s ∙ m)
made_by Read (No f) before said s m = let bad : Kept f ≡ Made = sym s ∙ m in cc
made_by Make (Yes n) before said s m = inl (sym s ∙ m)
made_by Make (No f) before said s m = let bad : Kept f ≡ Made = sym s ∙ m in cc
made_by (Create x) (Yes n) before said s m = inl (sym s ∙ m)
made_by (Create x) (No f) before said s m = let bad : Kept f ≡ Made = sym s ∙ m in cc
made_by (Append at) (Yes n) before said s m = ⊎_elim (λ (same : said ≡ before). inl (sym same ∙ m)) (λ (k : said ≡ Kept 0). (let bad : Kept 0 ≡ Made = sym k ∙ m in cc)) s
made_by (Append at) (No f) before said s m = let bad : Kept f ≡ Made = sym s ∙ m in cc
made_by (Sync b) (Yes n) before said s m = inl (sym s ∙ m)
made_by (Sync b) (No f) before said s m = let bad : Kept f ≡ Made = sym s ∙ m in cc
made_by SetAside (Yes n) before said s m = inl (sym s ∙ m)
made_by SetAside (No f) before said s m = let bad : Kept f ≡ Made = sym s ∙ m in cc
made_by Exchange (Yes n) before said s m = inl (sym s ∙ m)
made_by Exchange (No f) before said s m = let bad : Either f ≡ Made = sym s ∙ m in cc
made_by Rename (Yes n) before said s m = inl (sym s ∙ m)
made_by Rename (No f) before said s m = let bad : Either f ≡ Made = sym s ∙ m in cc
made_by SyncFolder (Yes n) before said s m = inr (refl, tt)
made_by SyncFolder (No f) before said s m = let bad : Unsettled f ≡ Made = sym s ∙ m in cc
made_by Remove answer before said s m = inl (sym s ∙ m)
made_by Settle (Yes n) before said s m = let bad : Same ≡ Made = sym s ∙ m in cc
made_by Settle (No f) before said s m = let bad : Unsynced f ≡ Made = sym s ∙ m in cc
made_by Note answer before said s m = inl (sym s ∙ m)
made_by Unlock answer before said s m = inl (sym s ∙ m)
made_by (Done o) answer before said s m = inl (sym s ∙ m)

folder_asked : (taken : List Taken) (t u : Turn) (job : Job) (es now : List Event) → RanSteps taken t u job es now → u.outcome ≡ Made → (t.outcome ≡ Made) ⊎ HasDone 9 taken
folder_asked [] t u job es now h m = inl (ap (λ x. x.outcome) (sym h.0) ∙ m)
folder_asked (s ∷ more) t u job es now h m =
    ⊎_elim (λ (before : h.3.0.outcome ≡ Made). ⊎_elim (λ was. inl was) (λ here. inr (inl (ap place h.0 ∙ here.0, here.1)))
    (made_by (step_of t) s.answer t.outcome h.3.0.outcome h.3.1.said before)) (λ later. inr (inr later))
    (folder_asked more h.3.0 u job s.now now h.3.2 m)

-- The folder's sync comes straight after a rename or an exchange that was done.
IsPut : Step → Answer → Type 0
IsPut step answer = ((place step ≡ 8) × IsYes answer) ⊎ ((place step ≡ 7) × IsYes answer)

Before : Step → Answer → Step → Type 0
Before step answer next = (place next < 9) ⊎ (IsPut step answer ⊎ (9 < place next))

before_sync : (t : Turn) (step : Step) (answer : Answer) (next : Step) → GoesOn t step answer next → Follows step next → place step < 9 → Before step answer next
unfolding Before IsPut
before_sync t Lock (Yes n) next g f lt = inl (let e : place next ≡ 1 = ap place g in omega arith)
before_sync t Lock (No x) next g f lt = inr (inr (omega arith))
before_sync t Read (Yes n) next g f lt = inl (let e : place next ≡ 2 = ap place g in omega arith)
before_sync t Read (No x) next g f lt = inr (inr (omega arith))
before_sync t Make (Yes n) next g f lt = inl (omega arith)
before_sync t Make (No x) next g f lt = inr (inr (let e : 10 ≤ place next = g.0 in omega arith))
before_sync t (Create m) (Yes n) next g f lt = inl (let e : place next ≡ 4 = ap place g in omega arith)
before_sync t (Create m) (No x) next g f lt = inr (inr (omega arith))
before_sync t (Append at) (Yes n) next g f lt = ⊎_elim (λ (e : place next ≡ 4). inl (omega arith)) (λ r. ⊎_elim (λ (e : place next ≡ 5). inl (omega arith)) (λ (e : 10 ≤ place next). inr (inr (omega arith))) r) g.any
before_sync t (Append at) (No x) next g f lt = inr (inr (omega arith))
before_sync t (Sync b) (Yes n) next g f lt = inl (by_keeps t.keeps refl)
  where
    by_keeps : (k : Bool) → t.keeps ≡ k → place next < 9
    by_keeps false k = let e : place next ≡ 8 = ap place (g.0 k) in omega arith
    by_keeps true k = let e : place next ≡ 6 = ap place (g.1 k) in omega arith
before_sync t (Sync b) (No x) next g f lt = inr (inr (omega arith))
before_sync t SetAside (Yes n) next g f lt = inl (by_number n refl)
  where
    by_number : (k : ℕ) → n ≡ k → place next < 9
    by_number zero k = let e : place next ≡ 8 = ap place (g.0 k) in omega arith
    by_number (suc m) k = let e : place next ≡ 7 = ap place (g.1 (omega (arith, k))) in omega arith
before_sync t SetAside (No x) next g f lt = inr (inr (omega arith))
before_sync t Exchange (Yes n) next g f lt = inr (inl (inr (refl, tt)))
before_sync t Exchange (No x) next g f lt = inr (inr (omega arith))
before_sync t Rename (Yes n) next g f lt = inr (inl (inl (refl, tt)))
before_sync t Rename (No x) next g f lt = inr (inr (omega arith))
before_sync t SyncFolder answer next g f lt = absurd (omega arith)
before_sync t Remove answer next g f lt = absurd (omega arith)
before_sync t Settle answer next g f lt = absurd (omega arith)
before_sync t Note answer next g f lt = absurd (omega arith)
before_sync t Unlock answer next g f lt = absurd (omega arith)
before_sync t (Done o) answer next g f lt = absurd (omega arith)

rises : (step next : Step) → Follows step next → 9 < place step → 9 < place next
rises Remove next f lt = omega arith
rises Settle next f lt = omega arith
rises Note next f lt = omega arith
rises Unlock next f lt = omega arith
rises (Done o) next f lt = (let e : place next ≡ 14 = ap place f in omega arith)
rises Lock next f lt = absurd (omega arith)
rises Read next f lt = absurd (omega arith)
rises Make next f lt = absurd (omega arith)
rises (Create m) next f lt = absurd (omega arith)
rises (Append at) next f lt = absurd (omega arith)
rises (Sync b) next f lt = absurd (omega arith)
rises SetAside next f lt = absurd (omega arith)
rises Exchange next f lt = absurd (omega arith)
rises Rename next f lt = absurd (omega arith)
rises SyncFolder next f lt = absurd (omega arith)

too_late : (taken : List Taken) (t u : Turn) (job : Job) (es now : List Event) → RanSteps taken t u job es now → 9 < place (step_of t) → HasDone 9 taken → ⊥
too_late [] t u job es now h lt d = d
too_late (s ∷ more) t u job es now h lt d =
    let same : place s.step ≡ place (step_of t) = ap place h.0 in
    ⊎_elim (λ (here : (place s.step ≡ 9) × IsYes s.answer). (let e : place s.step ≡ 9 = here.0 in absurd (omega arith)))
    (λ later. too_late more h.3.0 u job s.now now h.3.2 (rises (step_of t) (step_of h.3.0) h.3.1.order lt) later) d

put_first : (s : Taken) (more : List Taken) (step : Step) → place s.step ≡ place step → IsPut step s.answer → HasDone 8 (s ∷ more) ⊎ HasDone 7 (s ∷ more)
unfolding IsPut
put_first s more step same p = ⊎_elim (λ (a : (place step ≡ 8) × IsYes s.answer). inl (inl (same ∙ a.0, a.1))) (λ (a : (place step ≡ 7) × IsYes s.answer). inr (inl (same ∙ a.0, a.1))) p

put_later : (s : Taken) (more : List Taken) → HasDone 8 more ⊎ HasDone 7 more → HasDone 8 (s ∷ more) ⊎ HasDone 7 (s ∷ more)
put_later s more p = ⊎_elim (λ (a : HasDone 8 more). inl (inr a)) (λ (a : HasDone 7 more). inr (inr a)) p

rename_asked : (taken : List Taken) (t u : Turn) (job : Job) (es now : List Event) → RanSteps taken t u job es now → place (step_of t) < 9 → HasDone 9 taken → HasDone 8 taken ⊎ HasDone 7 taken
unfolding Before
rename_asked [] t u job es now h lt d = absurd d
rename_asked (s ∷ more) t u job es now h lt d =
    let same : place s.step ≡ place (step_of t) = ap place h.0 in
    ⊎_elim (λ (here : (place s.step ≡ 9) × IsYes s.answer). (let e : place s.step ≡ 9 = here.0 in absurd (omega arith)))
    (λ later. ⊎_elim (λ (early : place (step_of h.3.0) < 9). put_later s more (rename_asked more h.3.0 u job s.now now h.3.2 early later))
    (λ r. ⊎_elim (λ (it : IsPut (step_of t) s.answer). put_first s more (step_of t) same it)
    (λ (late : 9 < place (step_of h.3.0)). absurd (too_late more h.3.0 u job s.now now h.3.2 late later)) r)
    (before_sync t (step_of t) s.answer (step_of h.3.0) h.3.1.on h.3.1.order lt)) d

made_asked : (taken : List Taken) (t u : Turn) (job : Job) (es now : List Event) → IsBegun t → RanSteps taken t u job es now → u.outcome ≡ Made → (HasDone 8 taken ⊎ HasDone 7 taken) × HasDone 9 taken
made_asked taken t u job es now b h m =
    let first : place (step_of t) ≡ 0 = ap place b.first in
    let folder : HasDone 9 taken = ⊎_elim (λ (was : t.outcome ≡ Made). (let bad : Kept 0 ≡ Made = sym b.said ∙ was in cc)) (λ d. d) (folder_asked taken t u job es now h m) in
    (rename_asked taken t u job es now h (omega arith) folder, folder)

-- ---- it does not give up without a fault

-- it is on its way, or has made the change
IsOnCourse : Step → Outcome → Type 0
IsOnCourse step outcome = (place step < 10) ⊎ ((outcome ≡ Made) × (11 < place step))

-- an append that was no fault
writes_on : (t : Turn) (size at n : ℕ) (next : Step) (said : Outcome) → t.len ≡ size → at ≤ size → GoesOnWriting t.len at n next →
    IsFault size (Append at) (Yes n) ⊎ IsOnCourse next said
unfolding IsOnCourse
writes_on t size at n next said len le g = by_order (size - (at + n)) (at + n - size) n refl refl refl
  where
    by_order : (a b c : ℕ) → size - (at + n) ≡ a → at + n - size ≡ b → n ≡ c → (((n ≡ 0) × (at < size)) ⊎ (size < at + n)) ⊎ ((place next < 10) ⊎ ((said ≡ Made) × (11 < place next)))
    by_order zero zero c x y z = inr (inl (let e : place next ≡ 5 = g.whole (omega (arith, len, x, y)) in omega arith))
    by_order zero (suc b) c x y z = inl (inr (omega (arith, y)))
    by_order (suc a) b zero x y z = inl (inl (z, omega (arith, x, z)))
    by_order (suc a) b (suc c) x y z = inr (inl (let e : place next ≡ 4 = g.part (omega (arith, z)) (omega (arith, len, x)) in omega arith))

stays_on : (t : Turn) (size : ℕ) (step : Step) (answer : Answer) (next : Step) (before said : Outcome) → ((at : ℕ) → step ≡ Append at → (t.len ≡ size) × (at ≤ size)) → GoesOn t step answer next → Follows step next → IsSaid step answer before said
    → IsOnCourse step before → IsFault size step answer ⊎ IsOnCourse next said
unfolding IsOnCourse
stays_on t size Lock (Yes n) next before said l g f s c = inr (inl (let e : place next ≡ 1 = ap place g in omega arith))
stays_on t size Lock (No x) next before said l g f s c = inl tt
stays_on t size Read (Yes n) next before said l g f s c = inr (inl (let e : place next ≡ 2 = ap place g in omega arith))
stays_on t size Read (No x) next before said l g f s c = inl tt
stays_on t size Make (Yes n) next before said l g f s c = inr (inl (omega arith))
stays_on t size Make (No x) next before said l g f s c = inl tt
stays_on t size (Create m) (Yes n) next before said l g f s c = inr (inl (let e : place next ≡ 4 = ap place g in omega arith))
stays_on t size (Create m) (No x) next before said l g f s c = inl tt
stays_on t size (Append at) (Yes n) next before said l g f s c = writes_on t size at n next said (l at refl).0 (l at refl).1 g
stays_on t size (Append at) (No x) next before said l g f s c = inl tt
stays_on t size (Sync b) (Yes n) next before said l g f s c = inr (inl (by_keeps t.keeps refl))
  where
    by_keeps : (k : Bool) → t.keeps ≡ k → place next < 10
    by_keeps false k = let e : place next ≡ 8 = ap place (g.0 k) in omega arith
    by_keeps true k = let e : place next ≡ 6 = ap place (g.1 k) in omega arith
stays_on t size (Sync b) (No x) next before said l g f s c = inl tt
stays_on t size SetAside (Yes n) next before said l g f s c = inr (inl (by_number n refl))
  where
    by_number : (k : ℕ) → n ≡ k → place next < 10
    by_number zero k = let e : place next ≡ 8 = ap place (g.0 k) in omega arith
    by_number (suc m) k = let e : place next ≡ 7 = ap place (g.1 (omega (arith, k))) in omega arith
stays_on t size SetAside (No x) next before said l g f s c = inl tt
stays_on t size Exchange (Yes n) next before said l g f s c = inr (inl (let e : place next ≡ 9 = ap place g in omega arith))
stays_on t size Exchange (No x) next before said l g f s c = inl tt
stays_on t size Rename (Yes n) next before said l g f s c = inr (inl (let e : place next ≡ 9 = ap place g in omega arith))
stays_on t size Rename (No x) next before said l g f s c = inl tt
stays_on t size SyncFolder (Yes n) next before said l g f s c = inr (inr (s, let e : place next ≡ 12 = ap place g in omega arith))
stays_on t size SyncFolder (No x) next before said l g f s c = inl tt
stays_on t size Remove answer next before said l g f s c = absurd (⊎_elim (λ (lt : place Remove < 10). omega arith) (λ (m : (before ≡ Made) × (11 < place Remove)). (let lt : 11 < place Remove = m.1 in omega arith)) c)
stays_on t size Settle answer next before said l g f s c = absurd (⊎_elim (λ (lt : place Settle < 10). omega arith) (λ (m : (before ≡ Made) × (11 < place Settle)). (let lt : 11 < place Settle = m.1 in omega arith)) c)
stays_on t size Note answer next before said l g f s c = inr (inr (⊎_elim (λ (lt : place Note < 10). absurd (omega arith)) (λ (m : (before ≡ Made) × (11 < place Note)). (s ∙ m.0, omega (arith, f))) c))
stays_on t size Unlock answer next before said l g f s c = inr (inr (⊎_elim (λ (lt : place Unlock < 10). absurd (omega arith)) (λ (m : (before ≡ Made) × (11 < place Unlock)). (s ∙ m.0, omega (arith, f))) c))
stays_on t size (Done o) answer next before said l g f s c = inr (inr (⊎_elim (λ (lt : place (Done o) < 10). absurd (omega arith)) (λ (m : (before ≡ Made) × (11 < place (Done o))). (s ∙ m.0, let e : place next ≡ 14 = ap place f in omega arith)) c))

-- a byte that is to be written is one of the bytes
pub len_at : (t : Turn) (job : Job) (old es : List Event) (s : State) → StandsAt s t job old es → (at : ℕ) → step_at s t ≡ Append at
    → (t.len ≡ length job.bytes) × (at ≤ length job.bytes)
len_at t job old es Writing h at e = let same : t.at ≡ at = cc in let size : t.len ≡ length job.bytes = h.1 in let le : t.at ≤ t.len = h.2 in (size, omega arith)
len_at t job old es Locking h at e = cc
len_at t job old es Reading h at e = cc
len_at t job old es Making h at e = cc
len_at t job old es Creating h at e = cc
len_at t job old es Syncing h at e = cc
len_at t job old es SettingAside h at e = cc
len_at t job old es Exchanging h at e = cc
len_at t job old es Renaming h at e = cc
len_at t job old es SyncingFolder h at e = cc
len_at t job old es Removing h at e = cc
len_at t job old es Settling h at e = cc
len_at t job old es Noting h at e = cc
len_at t job old es Unlocking h at e = cc
len_at t job old es Over h at e = cc

persists : (taken : List Taken) (t u : Turn) (job : Job) (old es now : List Event) → IsLockApart job → Stands t job old es → RanSteps taken t u job es now → IsOnCourse (step_of t) t.outcome
    → HasFault (length job.bytes) taken ⊎ IsOnCourse (step_of u) u.outcome
persists [] t u job old es now apart k h c = inr (subst (λ x. IsOnCourse (step_of x) x.outcome) (sym h.0) c)
persists (s ∷ more) t u job old es now apart k h c =
    let next = h.3.0 in
    let a : IsAnswered t s.answer next = h.3.1 in
    let did : DidStep (step_of t) s.answer job es s.now = subst (λ x. DidStep x s.answer job es s.now) h.0 h.2 in
    ⊎_elim (λ (f : IsFault (length job.bytes) (step_of t) s.answer). inl (inl (subst (λ x. IsFault (length job.bytes) x s.answer) (sym h.0) f)))
    (λ on. ⊎_elim (λ (f : HasFault (length job.bytes) more). inl (inr f)) (λ later. inr later)
    (persists more next u job old s.now now apart (a.stands job old es s.now apart k did) h.3.2 on))
    (stays_on t (length job.bytes) (step_of t) s.answer (step_of next) t.outcome next.outcome (len_at t job old es t.state k) a.on a.order a.said c)

made_or_fault : (taken : List Taken) (t u : Turn) (job : Job) (old now : List Event) (outcome : Outcome) → IsLockApart job → IsBegun t → RanSteps taken t u job old now → step_of u ≡ Done outcome
    → (outcome ≡ Made) ⊎ HasFault (length job.bytes) taken
unfolding IsOnCourse
made_or_fault taken t u job old now outcome apart b h e =
    let first : place (step_of t) ≡ 0 = ap place b.first in
    let last : place (step_of u) ≡ 14 = ap place e in
    ⊎_elim (λ (f : HasFault (length job.bytes) taken). inr f)
    (λ c. ⊎_elim (λ (lt : place (step_of u) < 10). absurd (omega arith)) (λ (m : (u.outcome ≡ Made) × (11 < place (step_of u))). inl (sym (done_is u u.state outcome e) ∙ m.0)) c)
    (persists taken t u job old old now apart (b.stands job old) h (inl (omega arith)))

-- ---- what writes nothing

unwritten_of : (keeps : Bool) (o : Outcome) (job : Job) (old es : List Event) → IsUnwritten o → Says keeps o job old es → IsKept keeps job old es
unwritten_of keeps Made job old es w s = absurd w
unwritten_of keeps (Kept fault) job old es w s = s
unwritten_of keeps (Either fault) job old es w s = absurd w
unwritten_of keeps (Unsettled fault) job old es w s = absurd w
unwritten_of keeps Same job old es w s = s.kept
unwritten_of keeps (Unsynced fault) job old es w s = s

unwritten_at : (t : Turn) (job : Job) (old es : List Event) (s : State) → StandsAt s t job old es → 10 < place (step_at s t) → IsUnwritten t.outcome → IsKept t.keeps job old es
unwritten_at t job old es Settling h lt w = kept t.keeps job old es (early_apart t.keeps job old es h)
unwritten_at t job old es Noting h lt w = unwritten_of t.keeps t.outcome job old es w h.0
unwritten_at t job old es Unlocking h lt w = unwritten_of t.keeps t.outcome job old es w h.0
unwritten_at t job old es Over h lt w = unwritten_of t.keeps t.outcome job old es w h.0
unwritten_at t job old es Locking h lt w = absurd (omega arith)
unwritten_at t job old es Reading h lt w = absurd (omega arith)
unwritten_at t job old es Making h lt w = absurd (omega arith)
unwritten_at t job old es Creating h lt w = absurd (omega arith)
unwritten_at t job old es Writing h lt w = absurd (omega arith)
unwritten_at t job old es Syncing h lt w = absurd (omega arith)
unwritten_at t job old es SettingAside h lt w = absurd (omega arith)
unwritten_at t job old es Exchanging h lt w = absurd (omega arith)
unwritten_at t job old es Renaming h lt w = absurd (omega arith)
unwritten_at t job old es SyncingFolder h lt w = absurd (omega arith)
unwritten_at t job old es Removing h lt w = absurd (omega arith)

-- same is said from that step on
same_by : (step : Step) (answer : Answer) (before said : Outcome) → IsSaid step answer before said → said ≡ Same → (before ≡ Same) ⊎ ((place step ≡ 11) × IsYes answer)
same_by Lock (Yes n) before said s m = inl (sym s ∙ m)
same_by Lock (No f) before said s m = let bad : Kept f ≡ Same = sym s ∙ m in cc
same_by Read (Yes n) before said s m = inl (sym s ∙ m)
same_by Read (No f) before said s m = let bad : Kept f ≡ Same = sym s ∙ m in cc
same_by Make (Yes n) before said s m = inl (sym s ∙ m)
same_by Make (No f) before said s m = let bad : Kept f ≡ Same = sym s ∙ m in cc
same_by (Create x) (Yes n) before said s m = inl (sym s ∙ m)
same_by (Create x) (No f) before said s m = let bad : Kept f ≡ Same = sym s ∙ m in cc
same_by (Append at) (Yes n) before said s m = ⊎_elim (λ (same : said ≡ before). inl (sym same ∙ m)) (λ (k : said ≡ Kept 0). (let bad : Kept 0 ≡ Same = sym k ∙ m in cc)) s
same_by (Append at) (No f) before said s m = let bad : Kept f ≡ Same = sym s ∙ m in cc
same_by (Sync b) (Yes n) before said s m = inl (sym s ∙ m)
same_by (Sync b) (No f) before said s m = let bad : Kept f ≡ Same = sym s ∙ m in cc
same_by SetAside (Yes n) before said s m = inl (sym s ∙ m)
same_by SetAside (No f) before said s m = let bad : Kept f ≡ Same = sym s ∙ m in cc
same_by Exchange (Yes n) before said s m = inl (sym s ∙ m)
same_by Exchange (No f) before said s m = let bad : Either f ≡ Same = sym s ∙ m in cc
same_by Rename (Yes n) before said s m = inl (sym s ∙ m)
same_by Rename (No f) before said s m = let bad : Either f ≡ Same = sym s ∙ m in cc
same_by SyncFolder (Yes n) before said s m = let bad : Made ≡ Same = sym s ∙ m in cc
same_by SyncFolder (No f) before said s m = let bad : Unsettled f ≡ Same = sym s ∙ m in cc
same_by Settle (Yes n) before said s m = inr (refl, tt)
same_by Settle (No f) before said s m = let bad : Unsynced f ≡ Same = sym s ∙ m in cc
same_by Remove answer before said s m = inl (sym s ∙ m)
same_by Note answer before said s m = inl (sym s ∙ m)
same_by Unlock answer before said s m = inl (sym s ∙ m)
same_by (Done o) answer before said s m = inl (sym s ∙ m)

settle_asked : (taken : List Taken) (t u : Turn) (job : Job) (es now : List Event) → RanSteps taken t u job es now → u.outcome ≡ Same → (t.outcome ≡ Same) ⊎ HasDone 11 taken
settle_asked [] t u job es now h m = inl (ap (λ x. x.outcome) (sym h.0) ∙ m)
settle_asked (s ∷ more) t u job es now h m =
    ⊎_elim (λ (before : h.3.0.outcome ≡ Same). ⊎_elim (λ was. inl was) (λ here. inr (inl (ap place h.0 ∙ here.0, here.1)))
    (same_by (step_of t) s.answer t.outcome h.3.0.outcome h.3.1.said before)) (λ later. inr (inr later))
    (settle_asked more h.3.0 u job s.now now h.3.2 m)

same_asked : (taken : List Taken) (t u : Turn) (job : Job) (es now : List Event) → IsBegun t → RanSteps taken t u job es now → u.outcome ≡ Same → HasDone 11 taken
same_asked taken t u job es now b h m =
    ⊎_elim (λ (was : t.outcome ≡ Same). (let bad : Kept 0 ≡ Same = sym b.said ∙ was in cc)) (λ d. d) (settle_asked taken t u job es now h m)

-- ---- the law

pub whatever_is_answered : WhateverIsAnswered
whatever_is_answered taken t u job old now apart begun ran =
    let c = came taken t u job old old now apart (begun.stands job old) ran in
    record {
      safe = safe_at u job old now apart u.state c.stands;
      unwritten = λ lt w. unwritten_at u job old now u.state c.stands lt w;
      settles = λ e. same_asked taken t u job old now begun ran (done_is u u.state Same e);
      said = λ outcome e. (end_at u job old now u.state outcome c.stands e).0;
      asked = λ e. made_asked taken t u job old now begun ran (done_is u u.state Made e);
      persists = λ outcome e. made_or_fault taken t u job old now outcome apart begun ran e;
      cleared = λ outcome e. ⊎_elim (λ same. inl same) (λ r. inr (⊎_elim (λ none. inl none)
          (λ l. ⊎_elim (λ (was : IsTrue t.leaves_new). absurd (let bad : false ≡ true = sym begun.leaves ∙ was in cc)) (λ refused. inr refused) (c.leaves l)) r))
          (end_at u job old now u.state outcome c.stands e).1;
      aside = λ k. ⊎_elim (λ (was : IsTrue t.keeps). absurd (let bad : false ≡ true = sym begun.keeps ∙ was in cc)) (λ asked. asked) (c.keeps k);
      first = first_is taken t u job old now ran ∙ begun.first;
      order = c.order;
      count = (let n = c.count in let b = begun.left (length job.bytes) in omega arith);
    }
