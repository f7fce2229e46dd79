-- What holds of a notice of changes after any events and answers.
use Rattle.std.proofs.Common.{if◌then◌else◌, ℕ, ◌+◌, ◌≤◌, ◌≡◌, ◌≢◌, ◌⊎◌, Bool, true, false, IsTrue, List, [], ◌∷◌, refl, sym, ◌∙◌, ap, subst, arith, ⊎_elim, inl, inr}
use Rattle.dconf_steps.specs.declared.notice.Notice.{Notice}
use Rattle.dconf_steps.specs.declared.notice.Owed.{Owed}
use Rattle.dconf_steps.specs.declared.notice.Owed.TheVariants.{Nothing, Another, Anew}
use Rattle.dconf_steps.specs.declared.notice.NoticeStep.{NoticeStep}
use Rattle.dconf_steps.specs.declared.notice.NoticeStep.TheVariants.{Watch, Look, Rest}
use Rattle.dconf_steps.specs.declared.notice.NoticeEvent.{NoticeEvent}
use Rattle.dconf_steps.specs.declared.notice.NoticeEvent.TheVariants.{File, Folder, Time}
use Rattle.dconf_steps.specs.Notices.{notice_step, is_come, at_its_time, woken_by, owed_by, owed_after, look_again, after_look, answered_by, owed_behind, IsNoticeTold}
use Rattle.dconf_steps.specs.NoticeLaws.{NoticeMoment, Noticed, NoticeGoes, RanNotice, IsSeen, HasSeen, behind_moment, behind_answer, HasSeenSince, IsToLook, is_heard, is_heard_by, AreFollowed, heard_in, look_by, looks_in, answered_at, last_answer, IsSoon, WhateverIsNoticed, WhatIsToldIsNoticed, WhatComesIsDue}
use Rattle.dconf_steps.specs.NoticeLaws.NoticeMoment.{tells, answers}

-- what is owed of a look that comes
abbrev IsOwed : Owed → Type 0
IsOwed Nothing = ⊥
IsOwed owed = Unit {0}

-- ---- one moment

again_is_some : (whole : Bool) (pause now : ℕ) → look_again false whole pause now ≢ 0
again_is_some whole pause now e = omega arith

at_looks : (come whole : Bool) (until : ℕ) → until ≢ 0 → IsToLook (at_its_time come whole until)
at_looks true true until h = tt
at_looks true false until h = tt
at_looks false whole until h = h

woken_looks : (step : NoticeStep) (event : NoticeEvent) (now : ℕ) (whole : Bool) → IsToLook step → IsToLook (woken_by step event now whole)
woken_looks Watch event now whole h = tt
woken_looks Look event now whole h = tt
woken_looks (Rest until) File now whole h = tt
woken_looks (Rest until) Folder now whole h = tt
woken_looks (Rest until) Time now whole h = at_looks (is_come until now) whole until h

after_looks : (owed : Owed) (until : ℕ) → until ≢ 0 → IsToLook (after_look owed until)
after_looks Nothing until h = h
after_looks Another until h = tt
after_looks Anew until h = tt

answered_looks : (step : NoticeStep) (said : Bool) (owed : Owed) (whole : Bool) (pause now : ℕ) → IsToLook step
    → IsSeen step (answers said now) ⊎ IsToLook (answered_by step owed (look_again said whole pause now))
answered_looks Watch said owed whole pause now h = inr tt
answered_looks Look true owed whole pause now h = inl tt
answered_looks Look false owed whole pause now h = inr (after_looks owed (look_again false whole pause now) (again_is_some whole pause now))
answered_looks (Rest until) said owed whole pause now h = inr h

one_moment : (m : NoticeMoment) (w v : Notice) → NoticeGoes w m v → IsToLook (notice_step w) → IsSeen (notice_step w) m ⊎ IsToLook (notice_step v)
one_moment (tells event now) w v g l = inr (subst IsToLook (sym g.goes) (woken_looks (notice_step w) event now w.is_whole l))
one_moment (answers said now) w v g l =
    ⊎_elim (λ seen. inl seen) (λ next. inr (subst IsToLook (sym g.goes) next)) (answered_looks (notice_step w) said w.owed w.is_whole w.pause now l)

-- ---- that a look succeeds, or comes

goes_on : (taken : List Noticed) (w u : Notice) → RanNotice taken w u → IsToLook (notice_step w) → HasSeen taken ⊎ IsToLook (notice_step u)
goes_on [] w u h l = inr (subst (λ x. IsToLook (notice_step x)) (sym h) l)
goes_on (m ∷ more) w u h l =
    ⊎_elim (λ seen. inl (inl (subst (λ x. IsSeen x m.moment) (sym h.0) seen)))
    (λ next. ⊎_elim (λ seen. inl (inr seen)) (λ comes. inr comes) (goes_on more h.1.0 u h.1.2 next))
    (one_moment m.moment w h.1.0 h.1.1 l)

owed_stays : (event : NoticeEvent) (owed : Owed) → IsOwed owed → IsOwed (owed_by event owed)
owed_stays File Nothing o = elim o [ ]
owed_stays File Another o = tt
owed_stays File Anew o = tt
owed_stays Folder owed o = tt
owed_stays Time owed o = o

owed_looks : (owed : Owed) (until : ℕ) → IsOwed owed → IsToLook (after_look owed until)
owed_looks Nothing until o = elim o [ ]
owed_looks Another until o = tt
owed_looks Anew until o = tt

amid_moment : (m : NoticeMoment) (more : List Noticed) (w v u : Notice) → NoticeGoes w m v → RanNotice more v u → notice_step w ≡ Look → IsOwed w.owed
    → (notice_step v ≡ Look → IsOwed v.owed → HasSeen (behind_answer more) ⊎ IsToLook (notice_step u))
    → HasSeen (behind_moment m more (behind_answer more)) ⊎ IsToLook (notice_step u)
amid_moment (tells event now) more w v u g ran s o rest =
    rest (g.goes ∙ ap (λ x. woken_by x event now w.is_whole) s)
    (subst IsOwed (sym (g.owed ∙ ap (λ x. owed_after x event w.owed) s)) (owed_stays event w.owed o))
amid_moment (answers said now) more w v u g ran s o rest =
    let again = look_again said w.is_whole w.pause now in
    goes_on more v u ran (subst IsToLook (sym (g.goes ∙ ap (λ x. answered_by x w.owed again) s)) (owed_looks w.owed again o))

amid : (taken : List Noticed) (w u : Notice) → RanNotice taken w u → notice_step w ≡ Look → IsOwed w.owed → HasSeen (behind_answer taken) ⊎ IsToLook (notice_step u)
amid [] w u h s o = inr (subst (λ x. IsToLook (notice_step x)) (sym h) (subst IsToLook (sym s) tt))
amid (m ∷ more) w u h s o = amid_moment m.moment more w h.1.0 u h.1.1 h.1.2 s o (amid more h.1.0 u h.1.2)

rest_woken : (event : NoticeEvent) (until now : ℕ) (whole : Bool) → IsTrue (is_heard_by (Rest until) event now) → IsToLook (woken_by (Rest until) event now whole)
rest_woken File until now whole h = tt
rest_woken Folder until now whole h = tt
rest_woken Time until now true h = subst (λ come. IsToLook (at_its_time come true until)) (sym h) tt
rest_woken Time until now false h = subst (λ come. IsToLook (at_its_time come false until)) (sym h) tt

look_owed : (event : NoticeEvent) (now : ℕ) (owed : Owed) → IsTrue (is_heard_by Look event now) → IsOwed (owed_by event owed)
look_owed File now Nothing h = tt
look_owed File now Another h = tt
look_owed File now Anew h = tt
look_owed Folder now owed h = tt
look_owed Time now owed h = (let bad : false ≡ true = h in cc)

heard_by : (step : NoticeStep) (event : NoticeEvent) (now : ℕ) (more : List Noticed) (w v u : Notice) → notice_step w ≡ step → IsNoticeTold w event now v
    → RanNotice more v u → IsTrue (is_heard_by step event now) → HasSeenSince step more ⊎ IsToLook (notice_step u)
heard_by Watch event now more w v u e g ran h =
    goes_on more v u ran (subst IsToLook (sym (g.goes ∙ ap (λ x. woken_by x event now w.is_whole) e)) tt)
heard_by Look event now more w v u e g ran h =
    amid more v u ran (g.goes ∙ ap (λ x. woken_by x event now w.is_whole) e)
    (subst IsOwed (sym (g.owed ∙ ap (λ x. owed_after x event w.owed) e)) (look_owed event now w.owed h))
heard_by (Rest until) event now more w v u e g ran h =
    goes_on more v u ran (subst IsToLook (sym (g.goes ∙ ap (λ x. woken_by x event now w.is_whole) e)) (rest_woken event until now w.is_whole h))

follows : (m : NoticeMoment) (step : NoticeStep) (more : List Noticed) (w v u : Notice) → step ≡ notice_step w → NoticeGoes w m v → RanNotice more v u
    → IsTrue (is_heard step m) → HasSeenSince step more ⊎ IsToLook (notice_step u)
follows (tells event now) step more w v u e g ran h = heard_by step event now more w v u (sym e) g ran h
follows (answers said now) step more w v u e g ran h = (let bad : false ≡ true = h in cc)

followed : (taken : List Noticed) (w u : Notice) → RanNotice taken w u → AreFollowed taken u
followed [] w u h = tt
followed (m ∷ more) w u h = (λ heard. follows m.moment m.step more w h.1.0 u h.0 h.1.1 h.1.2 heard, followed more h.1.0 u h.1.2)

-- ---- how many looks

abbrev step_weight : NoticeStep → ℕ
step_weight Watch = 1
step_weight Look = 1
step_weight (Rest until) = 0

abbrev owed_weight : Owed → ℕ
owed_weight Nothing = 0
owed_weight Another = 1
owed_weight Anew = 1

-- how many looks come without another event
abbrev weight : Notice → ℕ
weight w = step_weight (notice_step w) + owed_weight w.owed

abbrev one_if : Bool → ℕ
one_if b = if b then 1 else 0

at_weighs : (come whole : Bool) (until : ℕ) → step_weight (at_its_time come whole until) ≤ one_if come
at_weighs true true until = omega arith
at_weighs true false until = omega arith
at_weighs false whole until = omega arith

owed_weighs : (owed : Owed) → owed_weight owed ≤ 1
owed_weighs Nothing = omega arith
owed_weighs Another = omega arith
owed_weighs Anew = omega arith

told_weighs : (step : NoticeStep) (event : NoticeEvent) (now : ℕ) (whole : Bool) (owed : Owed)
    → step_weight (woken_by step event now whole) + owed_weight (owed_after step event owed) ≤ step_weight step + owed_weight owed + one_if (is_heard_by step event now)
told_weighs Watch File now whole owed = omega arith
told_weighs Watch Folder now whole owed = omega arith
told_weighs Watch Time now whole owed = omega arith
told_weighs Look File now whole owed = (let one = owed_weighs (owed_by File owed) in omega arith)
told_weighs Look Folder now whole owed = omega arith
told_weighs Look Time now whole owed = omega arith
told_weighs (Rest until) File now whole owed = omega arith
told_weighs (Rest until) Folder now whole owed = omega arith
told_weighs (Rest until) Time now whole owed = (let one = at_weighs (is_come until now) whole until in omega arith)

after_weighs : (owed : Owed) (until : ℕ) → step_weight (after_look owed until) ≤ owed_weight owed
after_weighs Nothing until = omega arith
after_weighs Another until = omega arith
after_weighs Anew until = omega arith

answered_weighs : (step : NoticeStep) (said : Bool) (now : ℕ) (owed : Owed) (until : ℕ)
    → look_by step (answers said now) + (step_weight (answered_by step owed until) + owed_weight (owed_behind step owed)) ≤ step_weight step + owed_weight owed
answered_weighs Watch said now owed until = omega arith
answered_weighs Look said now owed until = (let one = after_weighs owed until in omega arith)
answered_weighs (Rest moment) said now owed until = omega arith

told_is_none : (step : NoticeStep) (event : NoticeEvent) (now : ℕ) → look_by step (tells event now) ≡ 0
told_is_none Watch event now = refl
told_is_none Look event now = refl
told_is_none (Rest until) event now = refl

moment_weighs : (m : NoticeMoment) (w v : Notice) → NoticeGoes w m v → look_by (notice_step w) m + weight v ≤ weight w + one_if (is_heard (notice_step w) m)
moment_weighs (tells event now) w v g =
    let t = told_weighs (notice_step w) event now w.is_whole w.owed in
    let s : step_weight (notice_step v) ≡ step_weight (woken_by (notice_step w) event now w.is_whole) = ap step_weight g.goes in
    let o : owed_weight v.owed ≡ owed_weight (owed_after (notice_step w) event w.owed) = ap owed_weight g.owed in
    let none : look_by (notice_step w) (tells event now) ≡ 0 = told_is_none (notice_step w) event now in
    omega arith
moment_weighs (answers said now) w v g =
    let again = look_again said w.is_whole w.pause now in
    let t = answered_weighs (notice_step w) said now w.owed again in
    let s : step_weight (notice_step v) ≡ step_weight (answered_by (notice_step w) w.owed again) = ap step_weight g.goes in
    let o : owed_weight v.owed ≡ owed_weight (owed_behind (notice_step w) w.owed) = ap owed_weight g.owed in
    omega arith

counted : (taken : List Noticed) (w u : Notice) → RanNotice taken w u → looks_in taken + weight u ≤ weight w + heard_in taken
counted [] w u h = (let same : weight u ≡ weight w = ap weight h in omega arith)
counted (m ∷ more) w u h =
    let rest : looks_in more + weight u ≤ weight h.1.0 + heard_in more = counted more h.1.0 u h.1.2 in
    let one = moment_weighs m.moment w h.1.0 h.1.1 in
    let l : look_by m.step m.moment ≡ look_by (notice_step w) m.moment = ap (λ x. look_by x m.moment) h.0 in
    let e : one_if (is_heard m.step m.moment) ≡ one_if (is_heard (notice_step w) m.moment) = ap (λ x. one_if (is_heard x m.moment)) h.0 in
    omega arith

-- ---- when the next look is

again_is_soon : (said whole : Bool) (pause now : ℕ) → IsSoon now (Rest (look_again said whole pause now))
again_is_soon true true pause now some = absurd (some refl)
again_is_soon true false pause now some = (omega arith, grind arith)
again_is_soon false whole pause now some = (omega arith, grind arith)

after_is_soon : (owed : Owed) (said whole : Bool) (pause now : ℕ) → IsSoon now (after_look owed (look_again said whole pause now))
after_is_soon Nothing said whole pause now = again_is_soon said whole pause now
after_is_soon Another said whole pause now = tt
after_is_soon Anew said whole pause now = tt

at_is_soon : (come whole : Bool) (before until : ℕ) → IsSoon before (Rest until) → IsSoon before (at_its_time come whole until)
at_is_soon true true before until h = tt
at_is_soon true false before until h = tt
at_is_soon false whole before until h = h

woken_soon : (step : NoticeStep) (event : NoticeEvent) (now : ℕ) (whole : Bool) (before : ℕ) → IsSoon before step → IsSoon before (woken_by step event now whole)
woken_soon Watch event now whole before h = tt
woken_soon Look event now whole before h = tt
woken_soon (Rest until) File now whole before h = tt
woken_soon (Rest until) Folder now whole before h = tt
woken_soon (Rest until) Time now whole before h = at_is_soon (is_come until now) whole before until h

answered_soon : (step : NoticeStep) (said : Bool) (owed : Owed) (whole : Bool) (pause now before : ℕ) → IsSoon before step
    → IsSoon (answered_at step (answers said now) before) (answered_by step owed (look_again said whole pause now))
answered_soon Watch said owed whole pause now before h = tt
answered_soon Look said owed whole pause now before h = after_is_soon owed said whole pause now
answered_soon (Rest until) said owed whole pause now before h = h

told_keeps : (step : NoticeStep) (event : NoticeEvent) (now before : ℕ) → answered_at step (tells event now) before ≡ before
told_keeps Watch event now before = refl
told_keeps Look event now before = refl
told_keeps (Rest until) event now before = refl

moment_soon : (m : NoticeMoment) (w v : Notice) (before : ℕ) → NoticeGoes w m v → IsSoon before (notice_step w) → IsSoon (answered_at (notice_step w) m before) (notice_step v)
moment_soon (tells event now) w v before g h =
    subst (λ x. IsSoon x (notice_step v)) (sym (told_keeps (notice_step w) event now before))
    (subst (IsSoon before) (sym g.goes) (woken_soon (notice_step w) event now w.is_whole before h))
moment_soon (answers said now) w v before g h =
    subst (IsSoon (answered_at (notice_step w) (answers said now) before)) (sym g.goes)
    (answered_soon (notice_step w) said w.owed w.is_whole w.pause now before h)

soon : (taken : List Noticed) (before : ℕ) (w u : Notice) → RanNotice taken w u → IsSoon before (notice_step w) → IsSoon (last_answer before taken) (notice_step u)
soon [] before w u h s = subst (λ x. IsSoon before (notice_step x)) (sym h) s
soon (m ∷ more) before w u h s =
    soon more (answered_at m.step m.moment before) h.1.0 u h.1.2
    (subst (λ x. IsSoon (answered_at x m.moment before) (notice_step h.1.0)) (sym h.0) (moment_soon m.moment w h.1.0 before h.1.1 s))

pub whatever_is_noticed : WhateverIsNoticed
whatever_is_noticed taken w u begun ran =
    record {
      begun = goes_on taken w u ran (subst IsToLook (sym begun.first) tt);
      followed = followed taken w u ran;
      soon = soon taken 0 w u ran (subst (IsSoon 0) (sym begun.first) tt);
      count = (
          let c : looks_in taken + weight u ≤ weight w + heard_in taken = counted taken w u ran in
          let s : step_weight (notice_step w) ≡ 1 = ap step_weight begun.first in
          let o : owed_weight w.owed ≡ 0 = ap owed_weight begun.owed in
          omega arith
          );
    }

-- ---- what is told at once, and when the next look is due

pub what_is_told_is_noticed : WhatIsToldIsNoticed
what_is_told_is_noticed [] now w v told = ([], refl, told)
what_is_told_is_noticed (event ∷ events) now w v told =
    let rest = what_is_told_is_noticed events now told.0 v told.2 in
    (record { step = notice_step w; moment = tells event now } ∷ rest.0, ap (λ (l : List NoticeMoment). tells event now ∷ l) rest.1, (refl, (told.0, told.1, rest.2)))

pub what_comes_is_due : WhatComesIsDue
what_comes_is_due Watch = (λ l e. omega (arith, e), λ d. tt)
what_comes_is_due Look = (λ l e. omega (arith, e), λ d. tt)
what_comes_is_due (Rest until) = (λ l. l, λ d. d)
