use Rattle.std.proofs.Common.{ap, ◌∙◌}
use Rattle.std.specs.Prelude.{option_map}
use Rattle.gv_view.proofs.VariantLemmas.{nowhere_zero, around_zero}
use Rattle.gv_view.proofs.text.around_last_zero.Goals as goal

pub returns-in_err-zero : goal.returns-in_err-zero
returns-in_err-zero c = ap (option_map (λ p. (p.0.now, p.1.now))) c.from_residual.ensures ∙ nowhere_zero c.args.bytes.now c.in_err-zero.ensures

pub returns : goal.returns
returns c = around_zero c.args.bytes.now c.in_ok-zero.zero c.in_ok-zero.ensures
