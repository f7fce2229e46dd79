use Rattle.std.proofs.Common.{rules}
use Rattle.dconf_compile.proofs.load.PathedRow.value.Goals as goal

pub returns-in-Err-clause-fault : goal.returns-in-Err-clause-fault
returns-in-Err-clause-fault c = search rules
