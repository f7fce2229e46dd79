use Rattle.std.proofs.Common.{length, ◌∷◌, sym, ap, ◌∙◌, arith}
use Rattle.gv_model.specs.Numerals.{run_after, begins_hex, without_sign}
use Rattle.gv_syntax.proofs.NumeralLaws.{run_step, run_stop, run_over, run_from_second, some_of}
use Rattle.gv_syntax.proofs.lexing.numeral.run_len.Goals as goal

pub loop-end-preserved : goal.loop-end-preserved
loop-end-preserved c = record {
  begun = omega arith;
  within = omega (arith, c.loop-end-test.true);
  same = run_step c.is_some-is_hex.result c.args.text.now c.loop-end.end _ c.loop-end.invariant.begun c.loop-end-test.true (sym c.goes_on.ensures ∙ c.if-goes_on.true) c.loop-end.invariant.same;
}

pub returns-else-goes_on-clause-len : goal.returns-else-goes_on-clause-len
returns-else-goes_on-clause-len c = λ b bs e.
    let hex = c.is_some-is_hex.ensures ∙ (some_of _ c.hex_digits.result _ _ c.hex_digits.ensures ∙ (ap begins_hex c.without_sign.ensures ∙ ap (λ s. begins_hex (without_sign s)) e)) in
    let stop = run_stop c.is_some-is_hex.result c.args.text.now c.loop-end.end _ c.loop-end-test.true (sym c.goes_on.ensures ∙ c.if-goes_on.false) c.loop-end.invariant.same in
    stop ∙ (run_from_second c.is_some-is_hex.result c.args.text.now bs b e ∙ ap (λ h. length (b ∷ run_after h b bs)) hex)

pub returns-after-loop-end-clause-len : goal.returns-after-loop-end-clause-len
returns-after-loop-end-clause-len c = λ b bs e.
    let hex = c.is_some-is_hex.ensures ∙ (some_of _ c.hex_digits.result _ _ c.hex_digits.ensures ∙ (ap begins_hex c.without_sign.ensures ∙ ap (λ s. begins_hex (without_sign s)) e)) in
    let stop = run_over c.is_some-is_hex.result c.args.text.now c.loop-end.end _ c.loop-end-test.false c.loop-end.invariant.same in
    stop ∙ (run_from_second c.is_some-is_hex.result c.args.text.now bs b e ∙ ap (λ h. length (b ∷ run_after h b bs)) hex)
