use Rattle.std.proofs.Common.{rules}
use Rattle.dconf_streams.proofs.counted.Counted.write_once.Goals as goal

pub returns-then-failed-clause-took : goal.returns-then-failed-clause-took
returns-then-failed-clause-took g c = search rules

pub returns-else-failed-clause-took : goal.returns-else-failed-clause-took
returns-else-failed-clause-took g c = search rules

pub returns-then-failed-clause-nothing_asked : goal.returns-then-failed-clause-nothing_asked
returns-then-failed-clause-nothing_asked g c = search rules

pub returns-else-failed-clause-nothing_asked : goal.returns-else-failed-clause-nothing_asked
returns-else-failed-clause-nothing_asked g c = search rules

pub returns-then-failed-clause-took_none : goal.returns-then-failed-clause-took_none
returns-then-failed-clause-took_none g c = search rules

pub returns-else-failed-clause-took_none : goal.returns-else-failed-clause-took_none
returns-else-failed-clause-took_none g c = search rules

pub returns-then-failed-clause-err : goal.returns-then-failed-clause-err
returns-then-failed-clause-err g c = search rules

pub returns-else-failed-clause-err : goal.returns-else-failed-clause-err
returns-else-failed-clause-err g c = search rules
