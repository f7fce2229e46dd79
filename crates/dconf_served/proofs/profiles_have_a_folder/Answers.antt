use Rattle.dconf_served.proofs.FolderLaws.{profiles_have_a_folder}
use Rattle.dconf_served.proofs.profiles_have_a_folder.Goals as goal

pub returns : goal.returns
returns c = profiles_have_a_folder
