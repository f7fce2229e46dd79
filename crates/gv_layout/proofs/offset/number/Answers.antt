use Rattle.gv_layout.proofs.Numbers.{one_byte, two_bytes, four_bytes}
use Rattle.gv_layout.proofs.offset.number.Goals as goal

pub returns-in-len1 : goal.returns-in-len1
returns-in-len1 c = one_byte c.args.bytes.now c.from.result c.in-len1.len_at_least c.in-len1.len_below c.from.ensures

pub returns-in-len2 : goal.returns-in-len2
returns-in-len2 c = two_bytes c.args.bytes.now c.from-in-len2.result c.from-in-len2-2.result c.in-len2.len_at_least c.in-len2.len_below c.from-in-len2.ensures c.from-in-len2-2.ensures

pub returns-in-len4 : goal.returns-in-len4
returns-in-len4 c =
    four_bytes c.args.bytes.now c.from-in-len4-3.result c.from-in-len4-4.result c.from-in-len4.result c.from-in-len4-2.result c.in-len4.len_at_least c.in-len4.len_below
    c.from-in-len4-3.ensures c.from-in-len4-4.ensures c.from-in-len4.ensures c.from-in-len4-2.ensures
