use Rattle.std.proofs.Common.{rules}
use Rattle.dconf_commands.proofs.commands.repair.kept_line.Goals as goal

pub returns : goal.returns
returns c = search rules
