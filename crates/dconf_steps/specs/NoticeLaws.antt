-- Looks at files that others change, whatever is answered.
use Rattle.std.specs.Prelude.{ℕ, ◌≡◌, ◌≢◌, ◌⊎◌, ◌↔◌, ◌+◌, ◌≤◌, Bool, true, false, IsTrue, List, [], ◌∷◌, map, if◌then◌else◌}
use Rattle.dconf_steps.specs.declared.notice.Notice.{Notice}
use Rattle.dconf_steps.specs.declared.notice.NoticeStep.{NoticeStep}
use Rattle.dconf_steps.specs.declared.notice.NoticeStep.TheVariants.{Watch, Look, Rest}
use Rattle.dconf_steps.specs.declared.notice.NoticeEvent.{NoticeEvent}
use Rattle.dconf_steps.specs.declared.notice.NoticeEvent.TheVariants.{File, Folder, Time}
use Rattle.dconf_steps.specs.Notices.{notice_step, is_come, AreTold, IsNoticeBegun, IsNoticeTold, IsNoticeAnswered, due_at}

pub data NoticeMoment : Type 0 where
  -- an event, and when it was told
  tells : NoticeEvent → ℕ → NoticeMoment
  -- the answer to a step, and when it was given
  answers : Bool → ℕ → NoticeMoment

-- what happened while the notice said that step
pub record Noticed : Type 0 where
  pub step : NoticeStep
  pub moment : NoticeMoment

abbrev pub NoticeGoes : Notice → NoticeMoment → Notice → Type 0
NoticeGoes w (tells event now) v = IsNoticeTold w event now v
NoticeGoes w (answers said now) v = IsNoticeAnswered w said now v

-- The notice took each event and each answer, in this order.
abbrev pub RanNotice : List Noticed → Notice → Notice → Type 0
RanNotice [] w u = u ≡ w
RanNotice (m ∷ more) w u = (m.step ≡ notice_step w) × ((next : Notice) × NoticeGoes w m.moment next × RanNotice more next u)

-- ---- what is seen

abbrev pub IsSeen : NoticeStep → NoticeMoment → Type 0
IsSeen Look (answers true now) = Unit {0}
IsSeen step moment = ⊥

-- a look succeeded
abbrev pub HasSeen : List Noticed → Type 0
HasSeen [] = ⊥
HasSeen (m ∷ more) = IsSeen m.step m.moment ⊎ HasSeen more

abbrev pub behind_moment : NoticeMoment → List Noticed → List Noticed → List Noticed
behind_moment (tells event now) more later = later
behind_moment (answers said now) more later = more

-- what came behind the answer to the step that was said
abbrev pub behind_answer : List Noticed → List Noticed
behind_answer [] = []
behind_answer (m ∷ more) = behind_moment m.moment more (behind_answer more)

-- A look that began later succeeded: one that was said already doesn't count.
abbrev pub HasSeenSince : NoticeStep → List Noticed → Type 0
HasSeenSince Look more = HasSeen (behind_answer more)
HasSeenSince step more = HasSeen more

-- a look comes at once, behind a watch, or at a moment that is said
abbrev pub IsToLook : NoticeStep → Type 0
IsToLook (Rest until) = until ≢ 0
IsToLook step = Unit {0}

-- ---- what is heard

abbrev pub is_heard_by : NoticeStep → NoticeEvent → ℕ → Bool
is_heard_by step File now = true
is_heard_by step Folder now = true
is_heard_by (Rest until) Time now = is_come until now
is_heard_by step Time now = false

-- a file or a folder changed, or the moment came that was said
abbrev pub is_heard : NoticeStep → NoticeMoment → Bool
is_heard step (tells event now) = is_heard_by step event now
is_heard step (answers said now) = false

-- each event is followed by a look that began later and succeeded, or is to come
abbrev pub AreFollowed : List Noticed → Notice → Type 0
AreFollowed [] u = Unit {0}
AreFollowed (m ∷ more) u = (IsTrue (is_heard m.step m.moment) → HasSeenSince m.step more ⊎ IsToLook (notice_step u)) × AreFollowed more u

-- ---- how often, and when

abbrev pub heard_in : List Noticed → ℕ
heard_in [] = 0
heard_in (m ∷ more) = (if is_heard m.step m.moment then 1 else 0) + heard_in more

abbrev pub look_by : NoticeStep → NoticeMoment → ℕ
look_by Look (answers said now) = 1
look_by step moment = 0

abbrev pub looks_in : List Noticed → ℕ
looks_in [] = 0
looks_in (m ∷ more) = look_by m.step m.moment + looks_in more

abbrev pub answered_at : NoticeStep → NoticeMoment → ℕ → ℕ
answered_at Watch (answers said now) before = now
answered_at Look (answers said now) before = now
answered_at step moment before = before

-- when the last answer to a step was given
abbrev pub last_answer : ℕ → List Noticed → ℕ
last_answer before [] = before
last_answer before (m ∷ more) = last_answer (answered_at m.step m.moment before) more

abbrev pub IsSoon : ℕ → NoticeStep → Type 0
IsSoon now (Rest until) = until ≢ 0 → (until ≤ now + 1000000) × ((now + 20000 ≤ until) ⊎ (until ≡ 18446744073709551615))
IsSoon now step = Unit {0}

pub record IsGoodNotice (taken : List Noticed) (u : Notice) : Type 0 where
  pub begun : HasSeen taken ⊎ IsToLook (notice_step u)
  pub followed : AreFollowed taken u
  -- the moment is 20 milliseconds after the last answer at least, and a second at most, as far as the clock goes
  pub soon : IsSoon (last_answer 0 taken) (notice_step u)
  -- there is one look for the begin, and one for each event or moment that came
  pub count : looks_in taken ≤ 1 + heard_in taken

abbrev pub WhateverIsNoticed : Type 0
WhateverIsNoticed = (taken : List Noticed) (w u : Notice) → IsNoticeBegun w → RanNotice taken w u → IsGoodNotice taken u

-- ---- what is told at once, and when the next look is due

abbrev pub told_at : ℕ → List NoticeEvent → List NoticeMoment
told_at now events = map {B = NoticeMoment} (λ event. tells event now) events

-- The notice took just these events. So what holds of each run holds where several are told at once.
abbrev pub WhatIsToldIsNoticed : Type 0
WhatIsToldIsNoticed =
    (events : List NoticeEvent) (now : ℕ) (w v : Notice) → AreTold events now w v →
    (taken : List Noticed) × (map (λ m. m.moment) taken ≡ told_at now events) × RanNotice taken w v

-- Whoever waits until a step is due misses no look: it is due at some moment just if a look is to come.
abbrev pub WhatComesIsDue : Type 0
WhatComesIsDue = (step : NoticeStep) → IsToLook step ↔ (due_at step ≢ 0)
