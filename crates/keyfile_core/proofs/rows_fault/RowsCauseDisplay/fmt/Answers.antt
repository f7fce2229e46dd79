use Rattle.std.proofs.Common.{rules}
use Rattle.keyfile_core.proofs.rows_fault.RowsCauseDisplay.fmt.Goals as goal

pub returns : goal.returns
returns c = search rules
