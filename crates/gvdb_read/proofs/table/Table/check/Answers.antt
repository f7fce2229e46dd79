use Rattle.std.proofs.Common.{rules}
use Rattle.gvdb_read.proofs.table.Table.check.Goals as goal

pub returns-clause-sound : goal.returns-clause-sound
returns-clause-sound c = search rules
