use Rattle.std.proofs.Common.{◌≡◌, ◌+◌, ◌∙◌, ◌++◌, ◌∷◌, [], Option, List, length, sym, ap, subst, map-id, rules}
use Rattle.std.proofs.lemmas.List.{length_push}
use Rattle.std.proofs.lemmas.Iterator.Adapters.{YieldsList-from_vec}
use Rattle.std.proofs.lemmas.Iterator.Consumers.{YieldsList-end}
use Rattle.dconf_runs.specs.declared.attempt.Attempt.{Attempt}
use Rattle.dconf_runs.specs.declared.request.Ended.{Ended}
use Rattle.dconf_runs.specs.Programs.{HaveComeInTurn}
use Rattle.dconf_runs.proofs.Inputs.{pushed}
use Rattle.dconf_runs.proofs.Crashing.{nothing_is_lost_by, one_attempt_more}
use Rattle.dconf_runs.proofs.attempt.run_through_crashes.Goals as goal

pub loop-attempt-preserved : goal.loop-attempt-preserved
loop-attempt-preserved c =
    let at = c.loop-attempt in
    let grown : c.push.new.self.items ≡ at.all.items ++ c.in_ok-ended.ended ∷ [] = pushed c.push.result c.is_err.result at.all.items c.push.new.self.items c.in_ok-ended.ended c.push.ensures.items c.is_err.ensures.value c.if-is_err.false in (
      λ old past.
          let before = at.invariant.0 old past in
          let one = c.in_ok-ended.ensures before.0 before.1 in (
            one.0,
            one.1,
            subst (λ (lefts : List (Option Ended)). HaveComeInTurn old (at.yielded ++ c.in-Some.attempt ∷ []) lefts one.0) (sym grown)
                (one_attempt_more old before.0 one.0 at.yielded at.all.items c.in-Some.attempt c.in_ok-ended.ended one.2.0 before.2 one.2.1 one.2.2),
          ),
      ap length grown ∙ length_push at.all.items c.in_ok-ended.ended ∙ ap (λ n. n + 1) at.invariant.1 ∙ sym (length_push at.yielded c.in-Some.attempt),
    )

pub returns-clause-ran : goal.returns-clause-ran
returns-clause-ran c = λ old past.
    let at = c.loop-attempt in
    let now = at.invariant.0 old past in
    let end = YieldsList-end (YieldsList-from_vec {s = c.into_iter-attempt-iterator.result} c.args.attempts.items (search rules) (search rules))
    at.yielded at.attempt-iterator at.yielded_by c.next.result c.next.new.self c.in-None.is c.next.ensures.steps in
    let each : at.yielded ≡ c.args.attempts.items = sym (map-id at.yielded) ∙ end.0 in
    (now.0, now.1, subst (λ (xs : List Attempt). HaveComeInTurn old xs at.all.items now.0) each now.2)

pub returns-clause-kept : goal.returns-clause-kept
returns-clause-kept c = λ old past.
    let came = returns-clause-ran c old past in
    (came.0, came.1, nothing_is_lost_by old came.0 c.args.attempts.items c.loop-attempt.all.items came.2)
