use Rattle.dconf_watches.proofs.RoundProofs.{rounds_end}
use Rattle.dconf_watches.proofs.rounds_end.Goals as goal

pub returns : goal.returns
returns c = rounds_end
