use Rattle.std.proofs.Common.{rules}
use Rattle.gvdb_read.proofs.table.Table.find.Goals as goal

pub returns-in_err-bytes-clause-none : goal.returns-in_err-bytes-clause-none
returns-in_err-bytes-clause-none c = search rules

pub returns-clause-found : goal.returns-clause-found
returns-clause-found c = search rules
