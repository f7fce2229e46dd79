use Rattle.std.proofs.Common.{ap, inl, inr, vec_items, rules, ◌∙◌}
use Rattle.std.proofs.lemmas.Result.{err_from_is_err_and}
use Rattle.refused.proofs.Faults.{OfFault-weaker}
use Rattle.dconf_streams.specs.Streams.{one_more}
use Rattle.dconf_streams.proofs.InputLaws.{both_fit, came_to_end, gave_before, gave_both, read_fault, read_more, read_text, reads_text, reads_whole_text}
use Rattle.dconf_streams.proofs.input.read_input.Goals as goal
use Rattle.dconf_streams.proofs.input.read_input.Goals.{else-loop-piece-test, then-loop-piece-test+in_ok-append_piece+then-branch-eq0}

pub loop-piece-preserved : goal.loop-piece-preserved
loop-piece-preserved g c =
    let took = c.in_ok-append_piece.ensures.took in (
      c.in_ok-append_piece.ensures.ok ∙ c.loop-piece.invariant.0,
      rw took.appended.0 (read_more g.I.Read.remaining _ _ _ _ _ _ _ c.loop-piece.invariant.1 took (search rules)),
      rw took.appended.0 (both_fit g.I.Read.remaining _ _ _ _ _ _ _ c.loop-piece.invariant.1 took 16777217 (search rules)),
    )

pub returns-in_err-append_piece-clause-took : goal.returns-in_err-append_piece-clause-took
returns-in_err-append_piece-clause-took g c =
    let p = err_from_is_err_and c.from_residual.result c.from_residual.ensures.1 in
    let took = c.in_err-append_piece.ensures.took in
    let fault = c.in_err-append_piece.field-0.0 in
    rw (p.1, p.2) (read_fault vec_items g.I.Read.remaining c.args.input.now c.append_piece.new.input _ fault
    (gave_both g.I.Read.remaining _ _ _ _ _ _ _ c.loop-piece.invariant.1 took)
    (OfFault-weaker _ _ (λ _ none. gave_before g.I.Read.remaining _ _ _ _ _ _ _ c.loop-piece.invariant.1 took none (search rules)) fault took.failing)
    (OfFault-weaker _ _ (λ _ rose. rose ∙ ap one_more c.loop-piece.invariant.0) fault c.in_err-append_piece.ensures.device))

pub returns-in_err-append_piece-clause-limit : goal.returns-in_err-append_piece-clause-limit
returns-in_err-append_piece-clause-limit g c =
    reads_text g.I.Read.remaining _ _ _ _ _ _ _ c.loop-piece.invariant.1 c.in_err-append_piece.ensures.took (search rules) (search rules)

pub returns-clause-took : goal.returns-clause-took
returns-clause-took g c =
    elim c.loop-piece-test.branch [
      | else-loop-piece-test w ↦
          rw (w.bytes-is, w.input-is) (read_text vec_items g.I.Read.remaining c.args.input.now c.loop-piece.input c.loop-piece.bytes
          c.loop-piece.invariant.1.given (inr (search rules)))
      | then-loop-piece-test+in_ok-append_piece+then-branch-eq0 w ↦
          let took = w.in_ok-append_piece.ensures.took in
          rw (w.bytes-is, w.input-is) (read_text vec_items g.I.Read.remaining c.args.input.now w.append_piece.new.input w.append_piece.new.bytes
          (rw took.appended.0 (gave_both g.I.Read.remaining _ _ _ _ _ _ _ c.loop-piece.invariant.1 took)) (inl (took.ended w.if-branch-eq0.true (search rules)).0))
    ]

pub returns-clause-limit : goal.returns-clause-limit
returns-clause-limit g c =
    elim c.loop-piece-test.branch [
      | else-loop-piece-test w ↦ rw w.input-is (reads_whole_text g.I.Read.remaining _ _ _ c.loop-piece.invariant.1 c.loop-piece.invariant.2)
      | then-loop-piece-test+in_ok-append_piece+then-branch-eq0 w ↦
          rw w.input-is (reads_text g.I.Read.remaining _ _ _ _ _ _ _ c.loop-piece.invariant.1 w.in_ok-append_piece.ensures.took (search rules) (search rules))
    ]

pub returns-clause-end : goal.returns-clause-end
returns-clause-end g c = λ short.
    elim c.loop-piece-test.branch [
      | else-loop-piece-test w ↦ absurd (search rules)
      | then-loop-piece-test+in_ok-append_piece+then-branch-eq0 w ↦
          let took = w.in_ok-append_piece.ensures.took in
          rw w.input-is (came_to_end g.I.Read.remaining _ _ _ _ _ _ _ c.loop-piece.invariant.1 took (took.ended w.if-branch-eq0.true (search rules)).1)
    ]

pub returns-clause-bytes : goal.returns-clause-bytes
returns-clause-bytes g c =
    elim c.loop-piece-test.branch [
      | else-loop-piece-test w ↦ rw (w.bytes-is, w.input-is) c.loop-piece.invariant.1.given
      | then-loop-piece-test+in_ok-append_piece+then-branch-eq0 w ↦
          let took = w.in_ok-append_piece.ensures.took in
          rw (w.bytes-is, w.input-is) (rw took.appended.0 (gave_both g.I.Read.remaining _ _ _ _ _ _ _ c.loop-piece.invariant.1 took))
    ]

pub returns-clause-ok : goal.returns-clause-ok
returns-clause-ok g c = search rules
