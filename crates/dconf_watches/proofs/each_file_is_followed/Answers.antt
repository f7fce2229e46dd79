use Rattle.dconf_watches.proofs.WatchProofs.{each_file_is_followed}
use Rattle.dconf_watches.proofs.each_file_is_followed.Goals as goal

pub returns : goal.returns
returns c = each_file_is_followed
