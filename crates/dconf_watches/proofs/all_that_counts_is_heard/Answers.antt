use Rattle.dconf_watches.proofs.WatchProofs.{all_that_counts_is_heard}
use Rattle.dconf_watches.proofs.all_that_counts_is_heard.Goals as goal

pub returns : goal.returns
returns c = all_that_counts_is_heard
