use Rattle.std.proofs.Common.{refl}
use Rattle.gv_types.proofs.type_str.TypeStr.of_checked.Goals as goal

pub returns : goal.returns
returns c = refl
