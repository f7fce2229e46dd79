use Rattle.std.proofs.Common.{ap, ◌∙◌}
use Rattle.std.specs.Prelude.{option_map}
use Rattle.gv_view.proofs.TextLemmas.{no_end, end_inside, end_last}
use Rattle.gv_view.proofs.text.long_text_in.Goals as goal

pub returns-in_err-end : goal.returns-in_err-end
returns-in_err-end c = ap (option_map (λ s. s.now)) c.from_residual.ensures ∙ no_end c.args.bytes.now c.in_err-end.ensures

pub returns-then-end-bytes : goal.returns-then-end-bytes
returns-then-end-bytes c = end_inside c.args.bytes.now c.in_ok-end.end c.in_ok-end.ensures c.if-end-bytes.true

pub returns : goal.returns
returns c = c.utf8_of.ensures ∙ end_last c.args.bytes.now c.in_ok-end.end c.in_ok-end.ensures c.if-end-bytes.false
