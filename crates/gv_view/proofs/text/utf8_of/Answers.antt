use Rattle.std.proofs.Common.{ap, ◌∙◌}
use Rattle.std.specs.Prelude.{option_map}
use Rattle.gv_view.proofs.TextLemmas.{utf8_cases}
use Rattle.gv_view.proofs.text.utf8_of.Goals as goal

pub returns : goal.returns
returns c = ap (option_map (λ s. s.now)) c.ok.ensures.value ∙ utf8_cases (λ s. s.now) _ c.args.bytes.now c.from_utf8.result c.from_utf8.ensures.cases
