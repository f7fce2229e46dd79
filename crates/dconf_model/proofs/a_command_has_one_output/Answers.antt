use Rattle.dconf_model.proofs.OneOutput.{one_output}
use Rattle.dconf_model.proofs.a_command_has_one_output.Goals as goal

pub returns : goal.returns
returns c = one_output
