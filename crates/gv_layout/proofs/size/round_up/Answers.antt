use Rattle.std.proofs.Common.{rules}
use Rattle.gv_model.specs.Layout.{round_up}
use Rattle.gv_layout.proofs.size.round_up.Goals as goal

pub returns-clause-rounded : goal.returns-clause-rounded
unfolding round_up
returns-clause-rounded c = search rules

pub returns-clause-near : goal.returns-clause-near
returns-clause-near c = search rules
