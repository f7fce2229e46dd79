use Rattle.std.proofs.Common.{◌∙◌}
use Rattle.gv_view.proofs.Numbers.{little_number-whole}
use Rattle.dconfdb_values.proofs.NumberLaws.{whole_sized}
use Rattle.dconfdb_values.proofs.numbers.two_bytes.Goals as goal

pub returns-then-bytes-eq2 : goal.returns-then-bytes-eq2
returns-then-bytes-eq2 c = c.from.ensures ∙ (c.read_u16.ensures ∙ (little_number-whole 2 c.args.bytes.now c.if-bytes-eq2.true ∙ whole_sized 2 c.args.bytes.now c.if-bytes-eq2.true))
