use Rattle.std.proofs.Common.{rules}
use Rattle.dconf_compile.proofs.fault.CompileCauseDisplay.fmt.Goals as goal

pub returns-in-TooBig : goal.returns-in-TooBig
returns-in-TooBig c = search rules
