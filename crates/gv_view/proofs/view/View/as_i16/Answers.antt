use Rattle.std.proofs.Common.{sym, ap, ◌∙◌, arith, w16}
use Rattle.gv_model.specs.Ty.Basic.{int16}
use Rattle.gv_model.specs.Tree.Tree.{number}
use Rattle.gv_view.proofs.Numbers.{little_number-whole, bits_of_signed}
use Rattle.gv_view.proofs.view.View.as_i16.Goals as goal

pub returns-clause-value : goal.returns-clause-value
returns-clause-value c =
    let read = c.read_u16-bits.ensures ∙ little_number-whole 2 c.in_ok-bytes.bytes.now c.in_ok-bytes.ensures.size in
    c.in_ok-bytes.ensures.value ∙ ap (number int16) (sym (bits_of_signed w16 c.read_u16-bits.result c.cast_signed.result c.cast_signed.ensures (omega arith) ∙ read))
