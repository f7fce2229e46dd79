use Rattle.std.proofs.Common.{rules}
use Rattle.dconf_path.proofs.line_fault.ProfileFlawDisplay.fmt.Goals as goal

pub returns-clause-writes : goal.returns-clause-writes
returns-clause-writes c = search rules
