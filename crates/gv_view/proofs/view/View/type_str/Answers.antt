use Rattle.std.proofs.Common.{refl}
use Rattle.gv_view.proofs.view.View.type_str.Goals as goal

pub returns : goal.returns
returns c = refl
