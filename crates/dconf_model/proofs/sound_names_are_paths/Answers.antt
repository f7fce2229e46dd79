use Rattle.dconf_model.proofs.KeyNames.{values_are_keys, directories_are_listed}
use Rattle.dconf_model.proofs.sound_names_are_paths.Goals as goal

pub returns : goal.returns
returns c = record { keys = values_are_keys; directories = directories_are_listed }
