use Rattle.dconf_json.proofs.ToldValues.{what_is_told}
use Rattle.dconf_json.proofs.values.what_is_told_is_the_value.Goals as goal

pub returns : goal.returns
returns c = what_is_told
