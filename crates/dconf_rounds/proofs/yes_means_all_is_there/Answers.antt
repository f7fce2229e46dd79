use Rattle.dconf_rounds.proofs.SyncLaws.{yes_means_all_is_there}
use Rattle.dconf_rounds.proofs.yes_means_all_is_there.Goals as goal

pub returns : goal.returns
returns c = yes_means_all_is_there
