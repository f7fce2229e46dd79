-- A notice, its step and an event as numbers.
use Rattle.std.specs.Prelude.{ℕ, if◌then◌else◌, ◌==◌, Option, None, Some}
use Rattle.dconf_steps.specs.declared.notice.Notice.{Notice}
use Rattle.dconf_steps.specs.declared.notice.NoticeStage.{NoticeStage}
use Rattle.dconf_steps.specs.declared.notice.NoticeStage.TheVariants.{Watching, Looking, Resting}
use Rattle.dconf_steps.specs.declared.notice.Owed.{Owed}
use Rattle.dconf_steps.specs.declared.notice.Owed.TheVariants.{Nothing, Another, Anew}
use Rattle.dconf_steps.specs.declared.notice.NoticeStep.{NoticeStep}
use Rattle.dconf_steps.specs.declared.notice.NoticeStep.TheVariants.{Watch, Look, Rest}
use Rattle.dconf_steps.specs.declared.notice.NoticeEvent.{NoticeEvent}
use Rattle.dconf_steps.specs.declared.notice.NoticeEvent.TheVariants.{File, Folder}
use Rattle.dconf_steps.specs.declared.notice_record.NoticeRecord.{NoticeRecord}

-- a stage that is none of these is to watch
abbrev pub notice_stage_of : ℕ → NoticeStage
notice_stage_of n = if n == 1 then Looking else if n == 2 then Resting else Watching

-- what is owed and is none of these is to watch, and to look
abbrev pub owed_of : ℕ → Owed
owed_of n = if n == 0 then Nothing else if n == 1 then Another else Anew

abbrev pub notice_of : NoticeRecord → Notice
notice_of r = record { stage = notice_stage_of r.stage; owed = owed_of r.owed; is_whole = r.is_whole; pause = r.pause; until = r.until }

-- what was heard, if anything
abbrev pub notice_event_of : ℕ → Option NoticeEvent
notice_event_of n = if n == 0 then Some File else if n == 1 then Some Folder else None

abbrev pub notice_step_number : NoticeStep → ℕ
notice_step_number Watch = 0
notice_step_number Look = 1
notice_step_number (Rest until) = 2

-- until when a rest is; else 0
abbrev pub rest_until : NoticeStep → ℕ
rest_until (Rest until) = until
rest_until step = 0
