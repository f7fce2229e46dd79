-- When whoever is told of changes looks at the files. All moments are of one clock, in microseconds; 0 is none.
use Rattle.std.specs.Prelude.{ℕ, ◌≡◌, ◌+◌, ◌*◌, min, max, Bool, true, false, not, ◌&&◌, nat_eq, nat_le, List, [], ◌∷◌, Option, None, Some}
use Rattle.dconf_steps.specs.declared.notice.Notice.{Notice}
use Rattle.dconf_steps.specs.declared.notice.NoticeStage.{NoticeStage}
use Rattle.dconf_steps.specs.declared.notice.NoticeStage.TheVariants.{Watching, Looking, Resting}
use Rattle.dconf_steps.specs.declared.notice.Owed.{Owed}
use Rattle.dconf_steps.specs.declared.notice.Owed.TheVariants.{Nothing, Another, Anew}
use Rattle.dconf_steps.specs.declared.notice.NoticeStep.{NoticeStep}
use Rattle.dconf_steps.specs.declared.notice.NoticeStep.TheVariants.{Watch, Look, Rest}
use Rattle.dconf_steps.specs.declared.notice.NoticeEvent.{NoticeEvent}
use Rattle.dconf_steps.specs.declared.notice.NoticeEvent.TheVariants.{File, Folder, Time}

abbrev pub notice_step_at : NoticeStage → ℕ → NoticeStep
notice_step_at Watching until = Watch
notice_step_at Looking until = Look
notice_step_at Resting until = Rest until

abbrev pub notice_step : Notice → NoticeStep
notice_step w = notice_step_at w.stage w.until

-- a moment that was said, and has come
abbrev pub is_come : ℕ → ℕ → Bool
is_come until now = not (nat_eq until 0) && nat_le until now

-- so long after a moment, as far as the clock goes
abbrev pub moment_after : ℕ → ℕ → ℕ
moment_after now pause = min 18446744073709551615 (now + pause)

-- twice the pause before, from 20 milliseconds to a second
abbrev pub next_look_pause : ℕ → ℕ
next_look_pause pause = max 20000 (min 1000000 (2 * pause))

pub record IsNoticeBegun (w : Notice) : Type 0 where
  pub first : notice_step w ≡ Watch
  pub owed : w.owed ≡ Nothing
  pub whole : w.is_whole ≡ false
  pub pause : w.pause ≡ 0

-- ---- what happens

-- at the moment that was said: where not all is watched, that is tried first
abbrev pub at_its_time : Bool → Bool → ℕ → NoticeStep
at_its_time true true until = Look
at_its_time true false until = Watch
at_its_time false whole until = Rest until

-- whoever rests does at once what an event asks for; a step that was said stays
abbrev pub woken_by : NoticeStep → NoticeEvent → ℕ → Bool → NoticeStep
woken_by (Rest until) File now whole = Look
woken_by (Rest until) Folder now whole = Watch
woken_by (Rest until) Time now whole = at_its_time (is_come until now) whole until
woken_by step event now whole = step

abbrev pub owed_by : NoticeEvent → Owed → Owed
owed_by File Nothing = Another
owed_by Folder owed = Anew
owed_by event owed = owed

-- An event amid a look owes another one, since that may have begun before it. The look behind a watch begins later.
abbrev pub owed_after : NoticeStep → NoticeEvent → Owed → Owed
owed_after Look event owed = owed_by event owed
owed_after Watch Folder owed = Anew
owed_after step event owed = owed

pub record IsNoticeTold (w : Notice) (event : NoticeEvent) (now : ℕ) (v : Notice) : Type 0 where
  pub goes : notice_step v ≡ woken_by (notice_step w) event now w.is_whole
  pub owed : v.owed ≡ owed_after (notice_step w) event w.owed
  pub whole : v.is_whole ≡ w.is_whole
  pub pause : v.pause ≡ w.pause

-- these were told, one after another
abbrev pub AreTold : List NoticeEvent → ℕ → Notice → Notice → Type 0
AreTold [] now w v = v ≡ w
AreTold (event ∷ more) now w v = (u : Notice) × IsNoticeTold w event now u × AreTold more now u v

-- what was heard since the last time, if anything, and that time passed
abbrev pub heard_events : Option NoticeEvent → List NoticeEvent
heard_events None = Time ∷ []
heard_events (Some event) = event ∷ Time ∷ []

-- whoever rests is asked to look; another look comes anyway
abbrev pub asked_events : NoticeStep → List NoticeEvent
asked_events (Rest until) = File ∷ []
asked_events step = []

abbrev pub IsNoticeAsked : Notice → Option NoticeEvent → ℕ → Notice → Type 0
IsNoticeAsked w event now v = (u : Notice) × AreTold (heard_events event) now w u × AreTold (asked_events (notice_step u)) now u v

-- that time passed, if somebody minds
abbrev pub time_events : Bool → List NoticeEvent
time_events true = Time ∷ []
time_events false = []

-- other files are the store's: a watch that comes is of those
abbrev pub anew_events : NoticeStep → List NoticeEvent
anew_events Watch = []
anew_events step = Folder ∷ []

-- when a step is due: a rest ends at its moment, if it has one, and any other step is due at once
abbrev pub due_at : NoticeStep → ℕ
due_at (Rest until) = until
due_at step = 1

-- no rest ends by time, unless somebody minds
abbrev pub due_if : Bool → NoticeStep → ℕ
due_if true step = due_at step
due_if false (Rest until) = 0
due_if false step = due_at step

-- ---- what is answered

-- the moment of the next look: where all is watched, and a look succeeded, there is none
abbrev pub look_again : Bool → Bool → ℕ → ℕ → ℕ
look_again true true pause now = 0
look_again true false pause now = moment_after now 1000000
look_again false whole pause now = moment_after now (next_look_pause pause)

abbrev pub after_look : Owed → ℕ → NoticeStep
after_look Nothing until = Rest until
after_look Another until = Look
after_look Anew until = Watch

-- behind a watch comes a look, behind a look what is owed, or a rest
abbrev pub answered_by : NoticeStep → Owed → ℕ → NoticeStep
answered_by Watch owed until = Look
answered_by Look owed until = after_look owed until
answered_by (Rest moment) owed until = Rest moment

abbrev pub owed_behind : NoticeStep → Owed → Owed
owed_behind Look owed = Nothing
owed_behind step owed = owed

abbrev pub whole_behind : NoticeStep → Bool → Bool → Bool
whole_behind Watch said whole = said
whole_behind step said whole = whole

abbrev pub pause_by : Bool → ℕ → ℕ
pause_by true pause = 0
pause_by false pause = next_look_pause pause

abbrev pub pause_behind : NoticeStep → Bool → ℕ → ℕ
pause_behind Look said pause = pause_by said pause
pause_behind step said pause = pause

pub record IsNoticeAnswered (w : Notice) (said : Bool) (now : ℕ) (v : Notice) : Type 0 where
  pub goes : notice_step v ≡ answered_by (notice_step w) w.owed (look_again said w.is_whole w.pause now)
  pub owed : v.owed ≡ owed_behind (notice_step w) w.owed
  pub whole : v.is_whole ≡ whole_behind (notice_step w) said w.is_whole
  pub pause : v.pause ≡ pause_behind (notice_step w) said w.pause
