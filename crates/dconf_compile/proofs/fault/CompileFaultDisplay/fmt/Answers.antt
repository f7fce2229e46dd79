use Rattle.std.proofs.Common.{rules}
use Rattle.dconf_compile.proofs.fault.CompileFaultDisplay.fmt.Goals as goal

pub returns : goal.returns
returns c = search rules
