use Rattle.std.proofs.Common.{rules}
use Rattle.gv_normal.proofs.padding.lies_after.Goals as goal

pub returns-then-to-body : goal.returns-then-to-body
returns-then-to-body c = search rules
