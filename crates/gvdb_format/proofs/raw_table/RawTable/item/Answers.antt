use Rattle.std.proofs.Common.{rules}
use Rattle.gvdb_format.proofs.raw_table.RawTable.item.Goals as goal

pub returns-clause-shows : goal.returns-clause-shows
returns-clause-shows c = search rules
