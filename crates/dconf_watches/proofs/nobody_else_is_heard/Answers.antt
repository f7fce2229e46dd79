use Rattle.dconf_watches.proofs.WatchProofs.{nobody_else_is_heard}
use Rattle.dconf_watches.proofs.nobody_else_is_heard.Goals as goal

pub returns : goal.returns
returns c = nobody_else_is_heard
