use Rattle.std.proofs.Common.{rules}
use Rattle.gv_model.specs.Encode.{least_width}
use Rattle.gv_layout.proofs.size.least_width.Goals as goal

pub returns-then-body-count-le255-clause-width : goal.returns-then-body-count-le255-clause-width
unfolding least_width
returns-then-body-count-le255-clause-width c = search rules
