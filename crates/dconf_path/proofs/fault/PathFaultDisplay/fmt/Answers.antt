use Rattle.std.proofs.Common.{rules}
use Rattle.dconf_path.proofs.fault.PathFaultDisplay.fmt.Goals as goal

pub returns-clause-writes : goal.returns-clause-writes
returns-clause-writes c = search rules
