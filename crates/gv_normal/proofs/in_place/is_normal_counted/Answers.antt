use Rattle.std.proofs.Common.{rules}
use Rattle.gv_normal.proofs.in_place.is_normal_counted.Goals as goal

pub returns-clause-normal : goal.returns-clause-normal
returns-clause-normal c = search rules

pub returns-clause-exact : goal.returns-clause-exact
returns-clause-exact c = search rules
