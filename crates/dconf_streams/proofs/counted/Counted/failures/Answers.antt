use Rattle.std.proofs.Common.{rules}
use Rattle.dconf_streams.proofs.counted.Counted.failures.Goals as goal

pub returns : goal.returns
returns c = search rules
