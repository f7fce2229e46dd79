use Rattle.std.proofs.Common.{rules}
use Rattle.gvdb_format.proofs.raw_table.RawTable.open.Goals as goal

pub returns-then-not-starts_with-clause-fault : goal.returns-then-not-starts_with-clause-fault
returns-then-not-starts_with-clause-fault c = search rules

pub returns-clause-opens : goal.returns-clause-opens
returns-clause-opens c = search rules

pub returns-clause-root : goal.returns-clause-root
returns-clause-root c = search rules

pub returns-clause-fault : goal.returns-clause-fault
returns-clause-fault c = search rules
