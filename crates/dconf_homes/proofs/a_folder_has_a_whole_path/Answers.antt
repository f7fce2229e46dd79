use Rattle.dconf_homes.proofs.HomeProofs.{folder_stays_whole}
use Rattle.dconf_homes.proofs.a_folder_has_a_whole_path.Goals as goal

pub returns : goal.returns
returns c = folder_stays_whole
