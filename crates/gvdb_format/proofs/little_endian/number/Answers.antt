use Rattle.std.proofs.Common.{rules, ◌∙◌, ◌≡◌, length}
use Rattle.gv_view.proofs.Numbers.{little_number-whole}
use Rattle.gvdb_format.proofs.little_endian.number.Goals as goal

pub returns : goal.returns
returns c = let size : length c.args.bytes.now ≡ 4 = search rules in c.read_u32.ensures ∙ little_number-whole 4 c.args.bytes.now size
