use Rattle.std.proofs.Common.{Some, None, refl, sym, subst}
use Rattle.dconf_model.specs.Survivals.{Attempt as Tried}
use Rattle.dconf_model.specs.Survivals.RunEnd.{ended, stopped, crashed}
use Rattle.dconf_runs.specs.Programs.{asked_of, output_of, IsEndOf}
use Rattle.dconf_runs.specs.declared.request.Ended.{Ended}
use Rattle.dconf_folders.specs.MemoryFolders.{IsPast, events_of, AddsTouches}
use Rattle.dconf_runs.proofs.Crashing.{came_crashed, came_stopped}
use Rattle.dconf_runs.proofs.attempt.attempt_one.Goals as goal

pub returns-in_ok-run_to_end-in-Whole : goal.returns-in_ok-run_to_end-in-Whole
returns-in_ok-run_to_end-in-Whole c = λ old past.
    let ran = c.in_ok-run_to_end-in-Whole.ensures.ran refl old past in
    let left : Ended = c.in_ok-run_to_end-in-Whole.field-0 in
    let tried : Tried = record { command = (asked_of c.args.attempt.request).0; input = (asked_of c.args.attempt.request).1; end = ended (output_of left) } in (
      ran.0,
      ran.1,
      (
        tried,
        record { command_is = refl; input_is = refl; end_is = subst (λ end. IsEndOf end (Some left) tried.end) (sym c.in-Whole.is) refl },
        ran.2,
      ),
    )

pub returns-in_ok-crash-in-Stopped : goal.returns-in_ok-crash-in-Stopped
returns-in_ok-crash-in-Stopped c = λ old past.
    let began : IsPast c.fail_at.new.self old = subst (λ calls. AddsTouches (events_of calls.items) old) (sym c.fail_at.ensures.calls) past in
    let ran = c.in_ok-run_unread-in-Stopped.ensures.ran refl old began in
    let cut : IsPast c.fail_at-in-Stopped.new.self ran.0 = subst (λ calls. AddsTouches (events_of calls.items) ran.0) (sym c.fail_at-in-Stopped.ensures.calls) ran.1 in
    let left = c.in_ok-crash-in-Stopped.ensures.left ran.0 cut in
    let tried : Tried = record { command = (asked_of c.args.attempt.request).0; input = (asked_of c.args.attempt.request).1; end = stopped } in (
      left.0,
      left.1,
      (
        tried,
        record { command_is = refl; input_is = refl; end_is = subst (λ end. IsEndOf end None stopped) (sym c.in-Stopped.is) tt },
        came_stopped tried.command tried.input old ran.0 left.0 ran.2.0 ran.2.1 left.2,
      ),
    )

pub returns-in_ok-crash-in-Crashed : goal.returns-in_ok-crash-in-Crashed
returns-in_ok-crash-in-Crashed c = λ old past.
    let left = c.in_ok-crash-in-Crashed.ensures.left old past in
    let tried : Tried = record { command = (asked_of c.args.attempt.request).0; input = (asked_of c.args.attempt.request).1; end = crashed } in (
      left.0,
      left.1,
      (
        tried,
        record { command_is = refl; input_is = refl; end_is = subst (λ end. IsEndOf end None crashed) (sym c.in-Crashed.is) tt },
        came_crashed tried.command tried.input old left.0 left.2,
      ),
    )
