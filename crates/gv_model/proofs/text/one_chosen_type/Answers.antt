use Rattle.gv_model.proofs.TypeOrder.{one_chosen}
use Rattle.gv_model.proofs.text.one_chosen_type.Goals as goal

pub returns : goal.returns
returns c = one_chosen
