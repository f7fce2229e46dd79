use Rattle.std.proofs.Common.{ℕ, List, [], false, subst}
use Rattle.dconf_model.specs.Runs.{RanCalmly}
use Rattle.command_words.specs.Commands.{command_of}
use Rattle.dconf_streams.specs.Streams.{NoneFailed}
use Rattle.dconf_runs.proofs.Inputs.{none_between}
use Rattle.dconf_runs.proofs.Turns.{gives_what_was_written}
use Rattle.dconf_runs.proofs.program.run_after.Goals as goal

pub returns-clause-ran : goal.returns-clause-ran
returns-clause-ran g c = λ honest old past.
    let none : NoneFailed (g.F.Folder.failed c.run_each.new.folder) (g.F.Folder.failed c.run_on.new.folder) =
    none_between _ _ (g.F.Folder.failed c.run_each.new.folder) (g.F.Folder.failed c.run_on.new.folder) (c.none_failed.ensures c.if-not-none_failed.false)
    c.failures-before.ensures c.failures.ensures in
    let first = c.in_ok-lefts.ensures.ran (c.run_on.ensures.honest honest) old past in
    let last = c.in_ok-status.ensures.calm honest none first.0 first.1 in
    let calm = subst (λ (bytes : List ℕ). RanCalmly (command_of c.args.last) (record { bytes = bytes; fails = false }) first.0 last.0 last.2.0) c.new.ensures.items last.2.1 in
    (first.0, first.2, (last.0, last.1, (last.2.0, calm, (last.2.3, last.2.2))))

pub returns-clause-printed : goal.returns-clause-printed
returns-clause-printed g c = λ honest old past.
    let ran = returns-clause-ran g c honest old past in
    let last = ran.2.2 in (
      last.0,
      gives_what_was_written old ran.0 ran.2.0 _ c.in_ok-lefts.lefts.items (command_of c.args.last, record { bytes = []; fails = false }) last.0 ran.1 last.1,
      last.2,
    )
