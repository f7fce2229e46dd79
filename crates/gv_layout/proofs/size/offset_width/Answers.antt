use Rattle.std.proofs.Common.{rules}
use Rattle.gv_model.specs.Layout.{offset_width}
use Rattle.gv_layout.proofs.size.offset_width.Goals as goal

pub returns-in-65536-to-4294967295 : goal.returns-in-65536-to-4294967295
unfolding offset_width
returns-in-65536-to-4294967295 c = search rules
