use Rattle.std.proofs.Common.{rules}
use Rattle.dconf_streams.proofs.counted.Counted.read_once.Goals as goal

pub returns-then-is_err-clause-ok : goal.returns-then-is_err-clause-ok
returns-then-is_err-clause-ok g c = search rules

pub returns-else-is_err-clause-ok : goal.returns-else-is_err-clause-ok
returns-else-is_err-clause-ok g c = search rules

pub returns-then-is_err-clause-err : goal.returns-then-is_err-clause-err
returns-then-is_err-clause-err g c = search rules

pub returns-else-is_err-clause-err : goal.returns-else-is_err-clause-err
returns-else-is_err-clause-err g c = search rules
