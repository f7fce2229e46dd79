use Rattle.std.proofs.Common.{rules}
use Rattle.gvdb_read.proofs.ListSteps.{listed_item, listed_none}
use Rattle.gvdb_read.proofs.table.Table.first_key.Goals as goal

pub returns-in-Some-clause-key : goal.returns-in-Some-clause-key
returns-in-Some-clause-key c = search (rules, listed_item)

pub loop-left-preserved : goal.loop-left-preserved
loop-left-preserved c = search (rules, listed_none)
