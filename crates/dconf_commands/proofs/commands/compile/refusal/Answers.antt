use Rattle.std.proofs.Common.{rules}
use Rattle.dconf_commands.proofs.commands.compile.refusal.Goals as goal

pub returns-clause-says : goal.returns-clause-says
returns-clause-says c = search rules
