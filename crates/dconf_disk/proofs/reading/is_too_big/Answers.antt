use Rattle.std.proofs.Common.{rules}
use Rattle.dconf_disk.proofs.reading.is_too_big.Goals as goal

pub returns : goal.returns
returns c = search rules
