use Rattle.std.proofs.Common.{rules}
use Rattle.dconf_disk.proofs.host.StdFolder.counted.Goals as goal

pub returns-then-matches-clause-cause : goal.returns-then-matches-clause-cause
returns-then-matches-clause-cause g c = search rules
