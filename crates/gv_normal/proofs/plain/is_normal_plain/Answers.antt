use Rattle.std.proofs.Common.{rules}
use Rattle.gv_normal.proofs.plain.is_normal_plain.Goals as goal

pub returns-in-Ok : goal.returns-in-Ok
returns-in-Ok c = search rules
