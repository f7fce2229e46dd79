use Rattle.std.proofs.Common.{ap, ◌∙◌}
use Rattle.gv_model.specs.Ty.Basic.{byte}
use Rattle.gv_model.specs.Tree.Tree.{number}
use Rattle.gv_layout.proofs.Numbers.{byte_number}
use Rattle.gv_view.proofs.view.View.as_u8.Goals as goal

pub returns-clause-value : goal.returns-clause-value
returns-clause-value c = c.in_ok-bytes.ensures.value ∙ ap (number byte) (byte_number c.in_ok-bytes.bytes.now c.in_ok-bytes.ensures.size)
