use Rattle.std.proofs.Common.{arith}
use Rattle.gv_layout.proofs.Widths.{width_is}
use Rattle.gv_normal.proofs.Pieces.{short_part}
use Rattle.gv_normal.proofs.array.table_begin.Goals as goal

pub overflow_sub-bytes : goal.overflow_sub-bytes
overflow_sub-bytes c =
    let w = width_is _ c.from-width.result c.offset_width.result c.from-width.ensures c.offset_width.ensures in
    omega (arith, w.within)

pub number-begin-requires : goal.number-begin-requires
number-begin-requires c =
    let w = width_is _ c.from-width.result c.offset_width.result c.from-width.ensures c.offset_width.ensures in
    short_part _ _ c.from-width.result w.narrow

pub nonzero_rem-bytes : goal.nonzero_rem-bytes
nonzero_rem-bytes c =
    let w = width_is _ c.from-width.result c.offset_width.result c.from-width.ensures c.offset_width.ensures in
    w.some c.requires
