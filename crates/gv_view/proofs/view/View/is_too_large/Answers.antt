use Rattle.std.proofs.Common.{rules}
use Rattle.gv_view.proofs.view.View.is_too_large.Goals as goal

pub returns : goal.returns
returns c = search rules
