use Rattle.std.proofs.Common.{rules}
use Rattle.gv_types.proofs.fault.TypeFaultDisplay.fmt.Goals as goal

pub returns-in-Empty-clause-writes : goal.returns-in-Empty-clause-writes
returns-in-Empty-clause-writes c = search rules
