use Rattle.dconf_model.proofs.ComputedNames.{name_of_named, named_of_name}
use Rattle.dconf_model.proofs.name_is_computed.Goals as goal

pub returns : goal.returns
returns c t i name = (name_of_named t i name, named_of_name t i name)
