use Rattle.dconf_places.proofs.Holding.{sites_file_is_no_users}
use Rattle.dconf_places.proofs.a_sites_file_is_no_users.Goals as goal

pub returns : goal.returns
returns c = sites_file_is_no_users
