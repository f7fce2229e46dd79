use Rattle.std.proofs.Common.{◌≡◌, ◌+◌, ◌∙◌, ◌++◌, ◌∷◌, [], List, length, map, sym, ap, subst}
use Rattle.std.proofs.lemmas.List.{length_push}
use Rattle.dconf_streams.specs.Streams.{NoneFailed}
use Rattle.dconf_runs.specs.declared.request.Ended.{Ended}
use Rattle.dconf_runs.specs.Programs.{asked_of, HasRunInTurn}
use Rattle.dconf_runs.proofs.Inputs.{none_between, pushed}
use Rattle.dconf_runs.proofs.Turns.{one_request_more}
use Rattle.dconf_runs.proofs.program.run_each.Goals as goal

pub loop-request-preserved : goal.loop-request-preserved
loop-request-preserved g c =
    let at = c.loop-request in
    let grown : c.push.new.self.items ≡ at.lefts.items ++ c.in_ok-left.left ∷ [] = pushed c.push.result c.is_err.result at.lefts.items c.push.new.self.items c.in_ok-left.left c.push.ensures.items c.is_err.ensures.value c.if-is_err.false in
    let none : NoneFailed (g.F.Folder.failed at.folder) (g.F.Folder.failed c.run_to_end.new.folder) =
    none_between _ _ (g.F.Folder.failed at.folder) (g.F.Folder.failed c.run_to_end.new.folder) (c.none_failed.ensures c.if-not-none_failed.false)
    c.failures-before.ensures c.failures.ensures in (
      λ honest old past.
          let before = at.invariant.0 (c.run_to_end.ensures.honest honest) old past in
          let one = c.in_ok-left.ensures.calm honest none before.0 before.1 in (
            one.0,
            one.1,
            subst (λ (lefts : List Ended). HasRunInTurn old (map asked_of (at.yielded ++ c.in-Some.request ∷ [])) lefts one.0) (sym grown)
                (one_request_more old before.0 one.0 at.yielded at.lefts.items c.in-Some.request c.in_ok-left.left before.2 one.2),
          ),
      ap length grown ∙ length_push at.lefts.items c.in_ok-left.left ∙ ap (λ n. n + 1) at.invariant.1 ∙ sym (length_push at.yielded c.in-Some.request),
      λ honest. at.invariant.2 (c.run_to_end.ensures.honest honest),
    )
