use Rattle.std.proofs.Common.{rules}
use Rattle.dconf_streams.proofs.counted.Counted.new.Goals as goal

pub returns-clause-failures : goal.returns-clause-failures
returns-clause-failures c = search rules
