use Rattle.dconf_homes.proofs.HomeProofs.{given_is_ours}
use Rattle.dconf_homes.proofs.a_given_folder_is_ours.Goals as goal

pub returns : goal.returns
returns c = given_is_ours
