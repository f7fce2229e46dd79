use Rattle.dconf_homes.proofs.HomeProofs.{files_are_dconfs}
use Rattle.dconf_homes.proofs.dconfs_files_are_where_dconf_has_them.Goals as goal

pub returns : goal.returns
returns c = files_are_dconfs
