use Rattle.gv_model.proofs.PartLaws.{child_within}
use Rattle.gv_model.proofs.children_lie_within.Goals as goal

pub returns : goal.returns
returns c = child_within
