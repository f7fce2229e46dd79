use Rattle.dconf_watches.proofs.BitProofs.{all_that_counts_is_asked_for}
use Rattle.dconf_watches.proofs.all_that_counts_is_asked_for.Goals as goal

pub returns : goal.returns
returns c = all_that_counts_is_asked_for
