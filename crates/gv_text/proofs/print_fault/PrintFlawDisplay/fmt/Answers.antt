use Rattle.std.proofs.Common.{rules}
use Rattle.gv_text.proofs.print_fault.PrintFlawDisplay.fmt.Goals as goal

pub returns-clause-writes : goal.returns-clause-writes
returns-clause-writes g c = search rules
