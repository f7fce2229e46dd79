use Rattle.std.proofs.Common.{◌∙◌, ℕ, List, Some, Bor, sym, ap, subst}
use Rattle.dconf_model.specs.Reads.{Input}
use Rattle.dconf_model.specs.Runs.{Ran, RanCalmly}
use Rattle.command_words.specs.Commands.{command_of}
use Rattle.dconf_streams.specs.Counted.{failures_of}
use Rattle.dconf_streams.specs.Streams.{NoneFailed}
use Rattle.dconf_runs.proofs.Inputs.{none_between, took_all}
use Rattle.dconf_runs.proofs.request.run_on.Goals as goal

pub returns-clause-calm : goal.returns-clause-calm
returns-clause-calm g c = λ honest none old past.
    let ran = c.run-status.ensures.calm honest none old past in
    let all = took_all (λ (s : Bor (List ℕ)). Some s.now) c.new-bytes.result c.run-status.new.input ran.0 c.args.request.input.items ran.1
    c.new-bytes.ensures.failures (sym c.failures.ensures ∙ (c.none_failed.ensures c.if-not-none_failed.false).same)
    (ap (λ (s : Bor (List ℕ)). Some s.now) c.new-bytes.ensures.inner ∙ ap (λ (xs : List ℕ). Some xs) c.as_slice.ensures.value) in
    let calm : NoneFailed (failures_of c.args.out.now) (failures_of c.run-status.new.out) =
    none_between _ _ (failures_of c.args.out.now) (failures_of c.run-status.new.out) (c.none_failed-else-not-none_failed.ensures c.if-not-none_failed-2.false)
    c.failures-writes.ensures c.failures-else-not-none_failed.ensures in
    let left = ran.2.2.2 in (
      ran.2.0,
      ran.2.1,
      (ran.2.2.0, subst (λ (i : Input). RanCalmly (command_of c.args.request.command) i old ran.2.0 ran.2.2.0) all ran.2.2.1, sym (left.out calm).1, left),
    )

pub returns-clause-ran : goal.returns-clause-ran
returns-clause-ran g c = λ honest old past.
    let ran = c.run-status.ensures.ran honest old past in
    let all = took_all (λ (s : Bor (List ℕ)). Some s.now) c.new-bytes.result c.run-status.new.input ran.0 c.args.request.input.items ran.1
    c.new-bytes.ensures.failures (sym c.failures.ensures ∙ (c.none_failed.ensures c.if-not-none_failed.false).same)
    (ap (λ (s : Bor (List ℕ)). Some s.now) c.new-bytes.ensures.inner ∙ ap (λ (xs : List ℕ). Some xs) c.as_slice.ensures.value) in
    let calm : NoneFailed (failures_of c.args.out.now) (failures_of c.run-status.new.out) =
    none_between _ _ (failures_of c.args.out.now) (failures_of c.run-status.new.out) (c.none_failed-else-not-none_failed.ensures c.if-not-none_failed-2.false)
    c.failures-writes.ensures c.failures-else-not-none_failed.ensures in (
      ran.2.0,
      ran.2.1,
      (ran.2.2.0, subst (λ (i : Input). Ran (command_of c.args.request.command) i old ran.2.0 ran.2.2.0) all ran.2.2.1, sym (ran.2.2.3.out calm).1, ran.2.2.3),
    )

pub returns-clause-unfailed : goal.returns-clause-unfailed
returns-clause-unfailed g c =
    none_between _ _ (failures_of c.args.out.now) (failures_of c.run-status.new.out) (c.none_failed-else-not-none_failed.ensures c.if-not-none_failed-2.false)
    c.failures-writes.ensures c.failures-else-not-none_failed.ensures
