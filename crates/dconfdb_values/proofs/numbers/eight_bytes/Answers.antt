use Rattle.std.proofs.Common.{◌∙◌}
use Rattle.gv_view.proofs.Numbers.{little_number-whole}
use Rattle.dconfdb_values.proofs.NumberLaws.{whole_sized}
use Rattle.dconfdb_values.proofs.numbers.eight_bytes.Goals as goal

pub returns-then-bytes-eq8 : goal.returns-then-bytes-eq8
returns-then-bytes-eq8 c = c.read_u64.ensures ∙ (little_number-whole 8 c.args.bytes.now c.if-bytes-eq8.true ∙ whole_sized 8 c.args.bytes.now c.if-bytes-eq8.true)
