use Rattle.std.proofs.Common.{sym, ap, ◌∙◌}
use Rattle.gv_model.specs.Ty.Basic.{uint32}
use Rattle.gv_model.specs.Tree.Tree.{number}
use Rattle.gv_view.proofs.Numbers.{little_number-whole}
use Rattle.gv_view.proofs.view.View.as_u32.Goals as goal

pub returns-clause-value : goal.returns-clause-value
returns-clause-value c =
    c.in_ok-bytes.ensures.value ∙ ap (number uint32) (sym (c.read_u32.ensures ∙ little_number-whole 4 c.in_ok-bytes.bytes.now c.in_ok-bytes.ensures.size))
