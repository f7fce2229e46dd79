use Rattle.std.proofs.Common.{refl}
use Rattle.gv_view.proofs.view.View.new.Goals as goal

pub returns-clause-bytes : goal.returns-clause-bytes
returns-clause-bytes c = refl
