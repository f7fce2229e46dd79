use Rattle.gv_model.proofs.TextOutcomes.{each_parses, one_outcome}
use Rattle.gv_model.proofs.text.tree_or_fault.Goals as goal

pub returns : goal.returns
returns c = record { some = each_parses; alone = one_outcome }
