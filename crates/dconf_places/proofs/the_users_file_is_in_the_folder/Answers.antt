use Rattle.dconf_places.proofs.Holding.{users_file_is_in_the_folder}
use Rattle.dconf_places.proofs.the_users_file_is_in_the_folder.Goals as goal

pub returns : goal.returns
returns c = users_file_is_in_the_folder
