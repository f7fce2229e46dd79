use Rattle.std.proofs.Common.{arith}
use Rattle.gv_layout.proofs.Numbers.{split_number, number_of_none}
use Rattle.gv_layout.proofs.offset.+number_by_bytes.Goals as goal

pub overflow_mul-result : goal.overflow_mul-result
overflow_mul-result t c =
    let split = split_number c.args.bytes.now c.from.result c.number_by_bytes.result c.in-len1-up.len_at_least c.requires c.type_inv.bytes c.from.ensures c.number_by_bytes.ensures in
    omega (arith, split.small)

pub overflow_add-result : goal.overflow_add-result
overflow_add-result t c =
    let split = split_number c.args.bytes.now c.from.result c.number_by_bytes.result c.in-len1-up.len_at_least c.requires c.type_inv.bytes c.from.ensures c.number_by_bytes.ensures in
    omega (arith, split.small, split.byte)

pub returns-in-empty : goal.returns-in-empty
returns-in-empty t c = number_of_none c.args.bytes.now c.in-empty.len_below

pub returns-in-len1-up : goal.returns-in-len1-up
returns-in-len1-up t c =
    (split_number c.args.bytes.now c.from.result c.number_by_bytes.result c.in-len1-up.len_at_least c.requires c.type_inv.bytes c.from.ensures c.number_by_bytes.ensures).value
