use Rattle.dconf_model.proofs.ValueLaws.{stored_is_held}
use Rattle.dconf_model.proofs.stored_values_are_held.Goals as goal

pub returns : goal.returns
returns c = stored_is_held
