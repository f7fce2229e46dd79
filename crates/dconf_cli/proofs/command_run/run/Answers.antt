use Rattle.std.proofs.Common.{◌∙◌}
use Rattle.dconf_cli.proofs.Given.{zero_is_done}
use Rattle.dconf_cli.proofs.Runs.{keeps_without_memory, ran, ran_anywhere, ran_calmly, says_failed_input, zero_keeps, zero_keeps_input}
use Rattle.dconf_cli.proofs.command_run.run.Goals as goal

pub returns-clause-calm : goal.returns-clause-calm
returns-clause-calm g c = λ honest none es es_is.
    let a = c.answered-answer.ensures.answer in
    let end = c.bring_about.ensures.ended in
    let r = ran_calmly g.F.Folder _ a.0 c.args.folder.now c.answered-answer.new.folder c.bring_about.new.folder c.answered-answer.result end.0
    a.2 end.1 (c.bring_about.ensures.honest honest) none es es_is in
    (a.0, a.1, (r.0, r.1, (end.0, r.2, end.2)))

pub returns-clause-ran : goal.returns-clause-ran
returns-clause-ran g c = λ honest es es_is.
    let a = c.answered-answer.ensures.answer in
    let end = c.bring_about.ensures.ended in
    let r = ran g.F.Folder _ a.0 c.args.folder.now c.answered-answer.new.folder c.bring_about.new.folder c.answered-answer.result end.0
    a.2 end.1 (c.bring_about.ensures.honest honest) es es_is in
    (a.0, a.1, (r.0, r.1, (end.0, r.2, r.3, end.2)))

pub returns-clause-memory : goal.returns-clause-memory
returns-clause-memory g c =
    let a = c.answered-answer.ensures.answer in
    let end = c.bring_about.ensures.ended in (
      a.0,
      a.1,
      (
        end.0,
        ran_anywhere g.F.Folder _ a.0 c.args.folder.now
            c.answered-answer.new.folder c.bring_about.new.folder c.answered-answer.result end.0 a.2 end.1,
        keeps_without_memory g.F.Folder _ a.0 c.args.folder.now
            c.answered-answer.new.folder c.bring_about.new.folder c.answered-answer.result end.0 a.2 end.1,
        end.2,
      ),
    )

pub returns-clause-anywhere : goal.returns-clause-anywhere
returns-clause-anywhere g c = let all = returns-clause-memory g c in (all.0, all.1, (all.2.0, all.2.1, all.2.3))

pub returns-clause-failed_input : goal.returns-clause-failed_input
returns-clause-failed_input g c = λ failed.
    let end = c.bring_about.ensures.ended in (
      end.0,
      says_failed_input g.F.Folder _ c.answered-answer.ensures.answer.0 c.args.folder.now
          c.answered-answer.new.folder c.bring_about.new.folder c.answered-answer.result end.0 c.answered-answer.ensures.answer.2 end.1
          (c.answered-answer.ensures.device failed),
      end.2,
    )

pub returns-clause-zero : goal.returns-clause-zero
returns-clause-zero g c = λ zero_is.
    let a = c.answered-answer.ensures.answer in
    let end = c.bring_about.ensures.ended in
    let done = end.2.done zero_is in (
      zero_keeps g.F.Folder _ a.0 c.args.folder.now
          c.answered-answer.new.folder c.bring_about.new.folder c.answered-answer.result end.0 a.2 end.1 done.0,
      zero_keeps_input g.F.Folder _ a.0 c.args.folder.now
          c.answered-answer.new.folder c.bring_about.new.folder c.answered-answer.result end.0 a.2 end.1 _ _ c.answered-answer.ensures.device done.0,
      done.1,
    )

pub returns-clause-failed_out : goal.returns-clause-failed_out
returns-clause-failed_out g c = λ rose. c.bring_about.ensures.ended.2.failing rose

pub returns-clause-status : goal.returns-clause-status
returns-clause-status g c = c.bring_about.ensures.ended.2.within

pub returns-clause-turn : goal.returns-clause-turn
returns-clause-turn g c = c.bring_about.ensures.turn ∙ c.answered-answer.ensures.answer.2.kept.turn

pub returns-clause-honest : goal.returns-clause-honest
returns-clause-honest g c = λ honest. c.answered-answer.ensures.answer.2.kept.honest (c.bring_about.ensures.honest honest)

pub returns-clause-untouched : goal.returns-clause-untouched
returns-clause-untouched g c = λ no_turn es is.
    let kept = c.answered-answer.ensures.answer.2.kept in
    c.bring_about.ensures.untouched (kept.turn ∙ no_turn) es (kept.past es is)

pub returns-clause-end : goal.returns-clause-end
returns-clause-end g c = λ zero reads.
    let end = c.bring_about.ensures.ended in
    zero_is_done g.F.Folder c.answered-answer.new.folder c.bring_about.new.folder c.answered-answer.result end.0 _ end.1
    (end.2.done zero).0 (c.answered-answer.ensures.end reads)
