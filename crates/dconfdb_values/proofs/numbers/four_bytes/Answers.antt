use Rattle.std.proofs.Common.{◌∙◌}
use Rattle.gv_view.proofs.Numbers.{little_number-whole}
use Rattle.dconfdb_values.proofs.NumberLaws.{whole_sized}
use Rattle.dconfdb_values.proofs.numbers.four_bytes.Goals as goal

pub returns-then-bytes-eq4 : goal.returns-then-bytes-eq4
returns-then-bytes-eq4 c = c.from.ensures ∙ (c.read_u32.ensures ∙ (little_number-whole 4 c.args.bytes.now c.if-bytes-eq4.true ∙ whole_sized 4 c.args.bytes.now c.if-bytes-eq4.true))
