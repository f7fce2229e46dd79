use Rattle.std.proofs.Common.{arith}
use Rattle.dconfdb_values.proofs.NumberLaws.{one_sized}
use Rattle.dconfdb_values.proofs.numbers.one_byte.Goals as goal

pub returns-in-len1 : goal.returns-in-len1
returns-in-len1 c = one_sized c.args.bytes.now (omega (arith, c.in-len1.len_at_least, c.in-len1.len_below))
