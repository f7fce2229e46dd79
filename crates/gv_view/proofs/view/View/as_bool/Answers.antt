use Rattle.std.proofs.Common.{rules}
use Rattle.gv_view.proofs.view.View.as_bool.Goals as goal

pub returns-clause-value : goal.returns-clause-value
returns-clause-value c = search rules
