use Rattle.std.proofs.Common.{rules}
use Rattle.gv_view.proofs.view.View.to_tree.Goals as goal

pub copied-requires : goal.copied-requires
copied-requires c = search rules

pub returns-clause-fits : goal.returns-clause-fits
returns-clause-fits c = search rules

pub returns-clause-fault : goal.returns-clause-fault
returns-clause-fault c = search rules
