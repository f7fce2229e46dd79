use Rattle.dconf_places.proofs.Holding.{folder_is_whole}
use Rattle.dconf_places.proofs.a_folder_has_a_whole_path.Goals as goal

pub returns : goal.returns
returns c = folder_is_whole
