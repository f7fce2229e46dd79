use Rattle.dconf_model.proofs.FirstKeys.{first_keys_are_enough}
use Rattle.dconf_model.proofs.first_keys_are_enough.Goals as goal

pub returns : goal.returns
returns c = first_keys_are_enough
