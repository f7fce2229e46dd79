use Rattle.dconf_model.proofs.WalkedKeys.{walk_finds_each_key, walk_ends}
use Rattle.dconf_model.proofs.WalkedSettings.{walk_has_each_setting}
use Rattle.dconf_model.proofs.LayerPaths.{layers_have_key_paths}
use Rattle.dconf_model.proofs.a_walk_finds_each_key.Goals as goal

pub returns : goal.returns
returns c = record { keys = walk_finds_each_key; ends = walk_ends; settings = walk_has_each_setting; paths = layers_have_key_paths }
