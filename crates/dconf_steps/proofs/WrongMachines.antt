-- Wrong machines: of what each would do it is proved that the laws alone exclude it.
use Rattle.std.proofs.Common.{ℕ, ◌≡◌, ◌≤◌, Bool, true, false, List, [], ◌∷◌, length, Option, Some, None, refl, ap, subst, arith, ⊎_elim, inl}
use Rattle.dconf_steps.specs.declared.notice.Notice.{Notice}
use Rattle.dconf_steps.specs.declared.notice.NoticeStep.{NoticeStep}
use Rattle.dconf_steps.specs.declared.notice.NoticeStep.TheVariants as notice
use Rattle.dconf_steps.specs.declared.notice.NoticeEvent.TheVariants.{File}
use Rattle.dconf_steps.specs.declared.queue.QueuedEdit.{QueuedEdit}
use Rattle.dconf_steps.specs.declared.queue.Queue.{Queue}
use Rattle.dconf_steps.specs.declared.queue.QueueEnd.TheVariants.{Written}
use Rattle.dconf_steps.specs.declared.queue.QueueStep.TheVariants as queue
use Rattle.dconf_steps.specs.declared.queue.QueueStep.{QueueStep}
use Rattle.dconf_steps.specs.declared.queue.QueueAnswer.TheVariants.{Yes, Fault, Later}
use Rattle.dconf_steps.specs.declared.queue.QueueAnswer.{QueueAnswer}
use Rattle.dconf_steps.specs.declared.refresh.Refresh.{Refresh}
use Rattle.dconf_steps.specs.declared.refresh.LookEnd.TheVariants.{Newer}
use Rattle.dconf_steps.specs.declared.refresh.LookStep.TheVariants.{Stat, Read, Compare, Keep, Open, Done}
use Rattle.dconf_steps.specs.declared.refresh.LookStep.{LookStep}
use Rattle.dconf_steps.specs.Notices.{notice_step}
use Rattle.dconf_steps.specs.NoticeLaws.{NoticeMoment, Noticed, IsToLook, IsSoon, IsGoodNotice}
use Rattle.dconf_steps.specs.NoticeLaws.NoticeMoment.{tells, answers}
use Rattle.dconf_steps.specs.Queues.{queue_step}
use Rattle.dconf_steps.specs.QueueLaws.{IsGoodQueue, TakenStep}
use Rattle.dconf_steps.specs.Looks.{look_step}
use Rattle.dconf_steps.specs.RefreshLaws.{Looked, IsGoodLook}

abbrev numbers_differ : ℕ → ℕ → Type 0
numbers_differ a b = a ≡ b → ⊥

one_is_not_none : numbers_differ 1 0
one_is_not_none e = omega arith

none_is_not_one : numbers_differ 0 1
none_is_not_one e = omega arith

one_is_not_two : numbers_differ 1 2
one_is_not_two e = omega arith

-- ---- the queue: two changes, of an edit each

abbrev edit : ℕ → Bool → Bool → QueuedEdit
edit change sets is_refused = record { change = change; sets = sets; is_left_out = false; is_refused = is_refused }

abbrev two : List QueuedEdit
two = edit 0 true false ∷ edit 1 true false ∷ []

abbrev asked : QueueStep → QueueAnswer → TakenStep
asked step answer = record { step = step; edits = two; answer = answer }

abbrev first_of : Option (List ℕ) → ℕ
first_of (Some (x ∷ more)) = x
first_of _ = 9

-- the second is refused for the first one's fault
pub anothers_fault : (u : Queue) → IsGoodQueue (asked queue.Write (Fault 0) ∷ []) u two (edit 0 true false ∷ edit 1 true true ∷ []) → ⊥
anothers_fault u g =
    ⊎_elim (λ (was : false ≡ true). cc) (λ r. ⊎_elim (λ (it : 0 ≡ 1). omega arith) (λ none. none) r) (g.own 1 refl)

-- the second is written before the first
pub out_of_order : (u : Queue) → IsGoodQueue (asked (queue.Take 1) Yes ∷ asked (queue.Take 0) Yes ∷ asked queue.Write Yes ∷ []) u two two
    → queue_step u two ≡ queue.Done Written → ⊥
out_of_order u g done = one_is_not_none (ap first_of (g.written done))

-- the first is written, and refused
pub written_and_refused : (u : Queue)
    → IsGoodQueue (asked (queue.Take 0) Yes ∷ asked (queue.Take 1) Yes ∷ asked queue.Write Yes ∷ []) u two (edit 0 true true ∷ edit 1 true false ∷ [])
    → queue_step u (edit 0 true true ∷ edit 1 true false ∷ []) ≡ queue.Done Written → ⊥
written_and_refused u g done = none_is_not_one (ap first_of (g.written done))

-- the first is neither written nor refused
pub lost : (u : Queue) → IsGoodQueue (asked (queue.Take 1) Yes ∷ asked queue.Write Yes ∷ []) u two two → queue_step u two ≡ queue.Done Written → ⊥
lost u g done = one_is_not_none (ap first_of (g.written done))

-- both are refused, since others write
pub refused_while_busy : (u : Queue) → IsGoodQueue (asked queue.Write Later ∷ []) u two (edit 0 true true ∷ edit 1 true true ∷ []) → ⊥
refused_while_busy u g = ⊎_elim (λ (was : false ≡ true). cc) (λ r. ⊎_elim (λ none. none) (λ none. none) r) (g.own 0 refl)

-- ---- a look at files

abbrev looked : LookStep → Bool → Looked
looked step said = record { step = step; said = said; fault = None }

-- a part is kept though the host said that the file is another one
pub kept_otherwise : (u : Refresh) → IsGoodLook 1 true false false (looked (Stat 0) false ∷ looked (Keep 0) true ∷ []) u → ⊥
kept_otherwise u g = let bad : false ≡ true = g.kept.1.0.1 in cc

-- the newer snapshot has one part of two
pub half_a_snapshot : (u : Refresh) → IsGoodLook 2 true false false (looked (Stat 0) false ∷ looked (Read 0) true ∷ looked (Compare 0) false ∷ looked (Open 0) true ∷ []) u
    → look_step u ≡ Done Newer → ⊥
half_a_snapshot u g e = one_is_not_two (ap (λ (l : List ℕ). length l) (g.newer e).0)

-- in a turn the host's word is taken for the file
pub unread_in_turn : (u : Refresh) → IsGoodLook 1 true true false (looked (Stat 0) true ∷ looked (Keep 0) true ∷ []) u → ⊥
unread_in_turn u g = g.unasked refl true (inl (refl, refl))

-- the snapshot is called newer though each part is the old one
pub called_newer : (u : Refresh) → IsGoodLook 1 true false false (looked (Stat 0) true ∷ looked (Keep 0) true ∷ []) u → look_step u ≡ Done Newer → ⊥
called_newer u g e =
    ⊎_elim (λ (none : true ≡ false). cc) (λ o. ⊎_elim (λ x. x) (λ r. ⊎_elim (λ x. x) (λ x. x) r) o) (g.newer e).1

-- ---- a notice: what it watches is watched at first

abbrev heard : NoticeStep → NoticeMoment → Noticed
heard step moment = record { step = step; moment = moment }

abbrev watched : Noticed
watched = heard notice.Watch (answers true 1)

rests_for_good : (step : NoticeStep) → step ≡ notice.Rest 0 → IsToLook step → ⊥
rests_for_good step e comes = subst IsToLook e comes refl

-- an event that came amid a look is forgotten when that succeeded
pub forgotten : (u : Notice) → IsGoodNotice (watched ∷ heard notice.Look (tells File 2) ∷ heard notice.Look (answers true 3) ∷ []) u
    → notice_step u ≡ notice.Rest 0 → ⊥
forgotten u g e = ⊎_elim (λ x. x) (λ comes. rests_for_good (notice_step u) e comes) (g.followed.1.0 refl)

-- a look that failed is not repeated
pub never_repeated : (u : Notice) → IsGoodNotice (watched ∷ heard notice.Look (answers false 2) ∷ []) u → notice_step u ≡ notice.Rest 0 → ⊥
never_repeated u g e =
    ⊎_elim (λ seen. ⊎_elim (λ x. x) (λ r. ⊎_elim (λ x. x) (λ x. x) r) seen) (λ comes. rests_for_good (notice_step u) e comes) g.begun

-- it is repeated at once, again and again
pub never_rests : (u : Notice) → IsGoodNotice (watched ∷ heard notice.Look (answers false 2) ∷ heard notice.Look (answers false 3) ∷ []) u → ⊥
never_rests u g = let bad : 2 ≤ 1 = g.count in omega arith

-- it is repeated after five seconds
pub too_late : (u : Notice) → IsGoodNotice (watched ∷ heard notice.Look (answers false 2) ∷ []) u → notice_step u ≡ notice.Rest 5000000 → ⊥
too_late u g e = let bad : 5000000 ≤ 1000002 = (subst (IsSoon 2) e g.soon (λ (zero_is : 5000000 ≡ 0). omega arith)).0 in omega arith
