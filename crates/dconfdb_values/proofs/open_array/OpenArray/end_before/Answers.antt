use Rattle.std.proofs.Common.{sym}
use Rattle.dconfdb_values.specs.OpenArrays.{ends_of}
use Rattle.dconfdb_values.proofs.OrderLaws.{before_first, before_next}
use Rattle.dconfdb_values.proofs.open_array.OpenArray.end_before.Goals as goal

pub returns-then-k-eq0 : goal.returns-then-k-eq0
returns-then-k-eq0 c = sym (before_first (ends_of c.args.self) c.args.k c.if-k-eq0.true)

pub returns-else-k-eq0 : goal.returns-else-k-eq0
returns-else-k-eq0 c = sym (before_next (ends_of c.args.self) c.args.k c.end.result c.if-k-eq0.false c.end.ensures)
