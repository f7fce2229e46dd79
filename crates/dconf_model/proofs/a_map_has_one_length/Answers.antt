use Rattle.dconf_model.proofs.OnePlan.{one_length}
use Rattle.dconf_model.proofs.a_map_has_one_length.Goals as goal

pub returns : goal.returns
returns c = one_length
