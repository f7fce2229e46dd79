use Rattle.dconf_changesets.proofs.WordLaws.{later_counts}
use Rattle.dconf_changesets.proofs.later_counts.Goals as goal

pub returns : goal.returns
returns c = later_counts
