use Rattle.std.proofs.Common.{rules}
use Rattle.gv_tree.proofs.fault.TreeFlawDisplay.fmt.Goals as goal

pub returns-in_default-clause-writes : goal.returns-in_default-clause-writes
returns-in_default-clause-writes g c = search rules
