use Rattle.std.proofs.Common.{rules}
use Rattle.dconf_commands.proofs.store_files.profile.Goals as goal

pub returns-in-Err-Fault-clause-err : goal.returns-in-Err-Fault-clause-err
returns-in-Err-Fault-clause-err c = search rules
