use Rattle.std.proofs.Common.{sym, ap₂, ◌∙◌, arith, ◌+◌, ◌*◌, ◌^◌, min, drop, add-one}
use Rattle.gv_model.specs.Numerals.{number_after}
use Rattle.gv_syntax.proofs.NumeralLaws.{number_goes_on, number_ends}
use Rattle.gv_syntax.proofs.lexing.numeral.capped_number.Goals as goal

pub loop-digit-preserved : goal.loop-digit-preserved
loop-digit-preserved c =
    let n = c.loop-digit.number in
    let i = c.loop-digit.digit-index in
    let next = number_goes_on c.args.base n c.args.digits.now i c.requires c.loop-digit-test.true in
    let less = c.min-number.ensures ∙ ap₂ (λ b d. min (n * b + d) (2 ^ 64)) c.from.ensures (c.from-in-loop-digit.ensures ∙ c.digit_value.ensures) in
    record {
      small = omega (arith, less);
      same = c.loop-digit.invariant.same ∙ (next ∙ ap₂ (λ m k. min (number_after c.args.base m (drop k c.args.digits.now)) (2 ^ 64)) (sym less) (sym (add-one i)));
    }

pub returns : goal.returns
returns c = sym (c.loop-digit.invariant.same ∙ number_ends c.args.base c.loop-digit.number c.args.digits.now c.loop-digit.digit-index c.loop-digit-test.false c.loop-digit.invariant.small)
