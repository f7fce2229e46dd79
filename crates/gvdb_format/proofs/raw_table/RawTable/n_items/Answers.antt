use Rattle.std.proofs.Common.{rules}
use Rattle.gvdb_format.proofs.raw_table.RawTable.n_items.Goals as goal

pub returns : goal.returns
returns c = search rules
