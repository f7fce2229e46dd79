use Rattle.std.proofs.Common.{rules}
use Rattle.gvdb_read.proofs.table.Table.has_hashed.Goals as goal

pub returns : goal.returns
returns c = search rules
