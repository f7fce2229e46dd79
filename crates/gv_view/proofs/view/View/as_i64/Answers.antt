use Rattle.std.proofs.Common.{sym, ap, ◌∙◌, arith, w64}
use Rattle.gv_model.specs.Ty.Basic.{int64}
use Rattle.gv_model.specs.Tree.Tree.{number}
use Rattle.gv_view.proofs.Numbers.{little_number-whole, bits_of_signed}
use Rattle.gv_view.proofs.view.View.as_i64.Goals as goal

pub returns-clause-value : goal.returns-clause-value
returns-clause-value c =
    let read = c.read_u64-bits.ensures ∙ little_number-whole 8 c.in_ok-bytes.bytes.now c.in_ok-bytes.ensures.size in
    c.in_ok-bytes.ensures.value ∙ ap (number int64) (sym (bits_of_signed w64 c.read_u64-bits.result c.cast_signed.result c.cast_signed.ensures (omega arith) ∙ read))
