use Rattle.std.proofs.Common.{rules}
use Rattle.gvdb_format.proofs.raw_table.RawTable.table_at.Goals as goal

pub returns-clause-some : goal.returns-clause-some
returns-clause-some c = search rules

pub returns-clause-table : goal.returns-clause-table
returns-clause-table c = search rules
