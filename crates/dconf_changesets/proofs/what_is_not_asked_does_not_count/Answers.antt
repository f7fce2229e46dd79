use Rattle.dconf_changesets.proofs.MakingLaws.{what_is_not_asked_does_not_count}
use Rattle.dconf_changesets.proofs.what_is_not_asked_does_not_count.Goals as goal

pub returns : goal.returns
returns c = what_is_not_asked_does_not_count
