use Rattle.dconf_changesets.proofs.MakingLaws.{what_is_lost_is_told_again}
use Rattle.dconf_changesets.proofs.what_is_lost_is_told_again.Goals as goal

pub returns : goal.returns
returns c = what_is_lost_is_told_again
