use Rattle.std.proofs.Common.{rules}
use Rattle.dconf_disk.proofs.host.StdFolder.in_turn.Goals as goal

pub returns : goal.returns
returns c = search rules
