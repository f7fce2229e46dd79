use Rattle.std.proofs.Common.{rules}
use Rattle.gv_types.proofs.class.BasicType.size.Goals as goal

pub returns-in-Boolean : goal.returns-in-Boolean
returns-in-Boolean c = search rules
