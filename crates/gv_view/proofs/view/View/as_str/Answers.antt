use Rattle.std.proofs.Common.{rules}
use Rattle.gv_view.proofs.view.View.as_str.Goals as goal

pub returns-in-Basic-Text-clause-value : goal.returns-in-Basic-Text-clause-value
returns-in-Basic-Text-clause-value c = search rules
