use Rattle.std.proofs.Common.{rules}
use Rattle.gv_types.proofs.object_path.is_object_path.Goals as goal

pub returns-in-47 : goal.returns-in-47
returns-in-47 c = search rules
