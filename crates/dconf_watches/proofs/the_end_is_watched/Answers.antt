use Rattle.dconf_watches.proofs.WatchProofs.{the_end_is_watched}
use Rattle.dconf_watches.proofs.the_end_is_watched.Goals as goal

pub returns : goal.returns
returns c = the_end_is_watched
