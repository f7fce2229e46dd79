use Rattle.gv_model.proofs.ChildLaws.{child_of_value, children_count}
use Rattle.gv_model.proofs.children_are_read.Goals as goal

pub returns : goal.returns
returns c = record { count = children_count; each = child_of_value }
