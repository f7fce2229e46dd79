use Rattle.std.proofs.Common.{rules}
use Rattle.gvdb_read.proofs.table.Table.find_bytes.Goals as goal

pub returns-clause-found : goal.returns-clause-found
returns-clause-found c = search rules
