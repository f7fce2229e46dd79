use Rattle.dconf_homes.proofs.HomeProofs.{others_are_ours}
use Rattle.dconf_homes.proofs.other_files_are_where_ours_are.Goals as goal

pub returns : goal.returns
returns c = others_are_ours
