use Rattle.dconf_changesets.proofs.AboveLaws.{no_directory_is_passed_over}
use Rattle.dconf_changesets.proofs.no_directory_is_passed_over.Goals as goal

pub returns : goal.returns
returns c = no_directory_is_passed_over
