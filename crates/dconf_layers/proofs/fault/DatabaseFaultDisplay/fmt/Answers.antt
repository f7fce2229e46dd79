use Rattle.std.proofs.Common.{rules}
use Rattle.dconf_layers.proofs.fault.DatabaseFaultDisplay.fmt.Goals as goal

pub returns-in-Unsound-clause-writes : goal.returns-in-Unsound-clause-writes
returns-in-Unsound-clause-writes c = search rules
