use Rattle.gv_model.proofs.GrammarLaws.{one_tree_for}
use Rattle.gv_model.proofs.text.no_tree_begins_another.Goals as goal

pub returns : goal.returns
returns c = one_tree_for
