use Rattle.dconf_model.proofs.PathLaws.{keys_are_faultless, directories_are_faultless}
use Rattle.dconf_model.proofs.paths_are_faultless.Goals as goal

pub returns-clause-keys : goal.returns-clause-keys
returns-clause-keys c = keys_are_faultless

pub returns-clause-directories : goal.returns-clause-directories
returns-clause-directories c = directories_are_faultless
