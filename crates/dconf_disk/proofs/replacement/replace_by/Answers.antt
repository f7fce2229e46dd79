use Rattle.std.proofs.Common.{◌≡◌, ◌<◌, false, true, ℕ, List, [], length, subst, sym, ◌∙◌, ⊎_elim}
use Rattle.std.proofs.lemmas.Bool.{true_from_ne_false}
use Rattle.dconf_model.specs.Folders.{Event}
use Rattle.dconf_model.specs.Replacing.{Replaced, MaybeReplaced}
use Rattle.dconf_turn.specs.declared.step.Step.TheVariants.{Append, SetAside}
use Rattle.dconf_turn.specs.Steps.{step_of, steps_left, IsDone}
use Rattle.dconf_turn.proofs.HistoryLaws.{len_at}
use Rattle.dconf_disk.specs.Driving.{DidHere, IsCounted, IsLookedAt, IsRefused, IsWhole, job_of}
use Rattle.dconf_disk.proofs.DrivingLaws.{can, roomy_on, hides_on, keeps_at, straight_on, counts_on, idle_on, not_idle, lock_apart, end_replaced, end_maybe, ok_of, err_of, is_done}
use Rattle.dconf_disk.proofs.DrivenLaws.{driven, on_way}
use Rattle.dconf_disk.proofs.replacement.replace_by.Goals as goal

pub steps-preserved : goal.steps-preserved
steps-preserved g c =
    let t = c.steps.turn in
    let u = c.answered.new.self in
    let answer = c.carry_out-answer.result in
    let name = c.args.name.now in
    let bytes = c.args.bytes.now in
    let job = job_of name bytes in
    let apart = lock_apart name bytes in
    let i = c.steps.invariant in
    let a = c.answered.ensures in
    let failed = g.F.Folder.failed in
    let hides = g.F.Folder.hides in
    let size : (at : ℕ) → step_of t ≡ Append at → t.len ≡ length bytes = λ at e. (len_at t job [] i.some.0 t.state i.some.1 at e).0 in
    let asides : step_of t ≡ SetAside → hides ≡ true = λ e. i.hides (keeps_at t job i.some.0 i.some.1 e) in
    let whole : IsWhole (step_of t) answer (length bytes) = subst (λ s. IsWhole s answer (length bytes)) c.next-step.ensures c.carry_out-answer.ensures.whole in
    let looked : IsLookedAt hides (step_of t) answer = subst (λ s. IsLookedAt hides s answer) c.next-step.ensures c.carry_out-answer.ensures.looked in
    let counted : IsCounted (failed c.steps.folder) (failed c.carry_out-answer.new.folder) (step_of t) answer =
    subst (λ s. IsCounted (failed c.steps.folder) (failed c.carry_out-answer.new.folder) s answer) c.next-step.ensures c.carry_out-answer.ensures.count in
    let goes : ¬ IsDone (step_of t) = λ h. (let o = is_done (step_of t) h in c.in_default.not-Done o.0 (c.next-step.ensures ∙ o.1)) in
    record {
      hides = hides_on hides (step_of t) answer t u looked a.knows i.hides;
      some = (let d = can (step_of t) answer name bytes i.some.0 whole i.some.2 in
          (d.0, a.stands job [] i.some.0 d.0 apart i.some.1 d.1, roomy_on (step_of t) (step_of u) name d.0 a.order d.2));
      known = λ es p.
          (let k = i.known es p in
          let d = c.carry_out-answer.ensures.did k.0 k.1 in
          let did : DidHere hides (step_of t) answer name bytes k.0 d.0 = subst (λ s. DidHere hides s answer name bytes k.0 d.0) c.next-step.ensures d.2 in (
            d.0,
            d.1,
            straight_on t (step_of u) t.outcome u.outcome hides es k.0 d.0 name bytes (step_of t) answer size asides a.on a.order a.said whole did k.2,
            on_way hides t u answer name bytes es k.0 d.0 goes a whole (λ e. (asides e, keeps_at t job i.some.0 i.some.1 e)) did k.3,
          ));
      turn = c.carry_out-answer.ensures.turn ∙ i.turn;
      honest = λ h. i.honest (c.carry_out-answer.ensures.honest h);
      idle = λ no_turn.
          (let k = i.idle no_turn in
          let no : g.F.Folder.holds_turn c.steps.folder ≡ false = i.turn ∙ no_turn in
          let refused : IsRefused (step_of t) answer = subst (λ s. IsRefused s answer) c.next-step.ensures (c.carry_out-answer.ensures.read_only no) in (
            idle_on t (step_of u) t.outcome u.outcome (length bytes) (step_of t) answer a.on a.order a.said whole refused k.0,
            λ es p. c.carry_out-answer.ensures.untouched no es (k.1 es p),
          ));
      counts = counts_on t (step_of u) t.outcome u.outcome (failed c.args.folder.now) (failed c.steps.folder) (failed c.carry_out-answer.new.folder) bytes (step_of t) answer size
          a.on a.order a.said whole counted i.counts;
    }

pub returns-in-Done-clause-ok : goal.returns-in-Done-clause-ok
returns-in-Done-clause-ok g c es p =
    let i = c.steps.invariant in
    let k = i.known es p in
    let name = c.args.name.now in
    let bytes = c.args.bytes.now in
    let over = sym c.next-step.ensures ∙ c.in-Done.is in
    ok_of ((x : List Event) × g.F.Folder.past c.steps.folder x × Replaced es x name bytes) c.in-Done.outcome c.result_of.result c.result_of.ensures
    (λ made. (k.0, k.1, end_replaced c.steps.turn es k.0 name bytes c.in-Done.outcome k.2 over made))

pub returns-in-Done-clause-err : goal.returns-in-Done-clause-err
returns-in-Done-clause-err g c es p =
    let i = c.steps.invariant in
    let k = i.known es p in
    let name = c.args.name.now in
    let bytes = c.args.bytes.now in
    let over = sym c.next-step.ensures ∙ c.in-Done.is in
    err_of ((x : List Event) × g.F.Folder.past c.steps.folder x × MaybeReplaced es x name bytes) c.in-Done.outcome c.result_of.result c.result_of.ensures
    (k.0, k.1, end_maybe c.steps.turn es k.0 name bytes c.in-Done.outcome k.2 over)

pub returns-in-Done-clause-drove : goal.returns-in-Done-clause-drove
returns-in-Done-clause-drove g c es p =
    let k = c.steps.invariant.known es p in
    let over = sym c.next-step.ensures ∙ c.in-Done.is in
    (k.0, k.1, driven g.F.Folder.hides c.steps.turn c.result_of.result c.in-Done.outcome c.args.name.now c.args.bytes.now es k.0 over c.result_of.ensures k.3)

pub returns-in-Done-clause-held : goal.returns-in-Done-clause-held
returns-in-Done-clause-held g c =
    let i = c.steps.invariant in
    let holds = g.F.Folder.holds_turn c.args.folder.now in
    let over = sym c.next-step.ensures ∙ c.in-Done.is in
    ok_of (holds ≡ true) c.in-Done.outcome c.result_of.result c.result_of.ensures
    (λ made. true_from_ne_false holds (λ no_turn. not_idle c.steps.turn c.in-Done.outcome over made (i.idle no_turn).0))

pub returns-in-Done-clause-untouched : goal.returns-in-Done-clause-untouched
returns-in-Done-clause-untouched g c = λ no_turn. (c.steps.invariant.idle no_turn).1

pub steps-smaller : goal.steps-smaller
steps-smaller g c =
    let t = c.steps.turn in
    let u = c.answered.new.self in
    let answer = c.carry_out-answer.result in
    let bytes = c.args.bytes.now in
    let i = c.steps.invariant in
    let whole : IsWhole (step_of t) answer (length bytes) = subst (λ s. IsWhole s answer (length bytes)) c.next-step.ensures c.carry_out-answer.ensures.whole in
    let d = can (step_of t) answer c.args.name.now bytes i.some.0 whole i.some.2 in
    ⊎_elim (λ (h : IsDone (step_of t)). (let o = is_done (step_of t) h in absurd (c.in_default.not-Done o.0 (c.next-step.ensures ∙ o.1))))
    (λ (lt : steps_left u (length bytes) < steps_left t (length bytes)). lt) (c.answered.ensures.fewer (job_of c.args.name.now bytes) [] i.some.0 d.0 i.some.1 d.1)
