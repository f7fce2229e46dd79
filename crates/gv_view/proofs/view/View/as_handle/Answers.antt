use Rattle.std.proofs.Common.{sym, ap, ◌∙◌, arith, rules, w32}
use Rattle.gv_model.specs.Ty.Basic.{handle}
use Rattle.gv_model.specs.Tree.Tree.{number}
use Rattle.gv_view.proofs.Numbers.{little_number-whole, bits_of_signed}
use Rattle.gv_view.proofs.view.View.as_handle.Goals as goal

pub returns-clause-value : goal.returns-clause-value
returns-clause-value c =
    let read = c.read_u32-bits.ensures ∙ little_number-whole 4 c.in_ok-bytes.bytes.now c.in_ok-bytes.ensures.size in
    c.in_ok-bytes.ensures.value ∙ ap (number handle) (sym (bits_of_signed w32 c.read_u32-bits.result c.cast_signed.result c.cast_signed.ensures (omega arith) ∙ read))

pub returns-in_err-bytes-clause-some : goal.returns-in_err-bytes-clause-some
returns-in_err-bytes-clause-some c = search rules

pub returns-clause-some : goal.returns-clause-some
returns-clause-some c = search rules
