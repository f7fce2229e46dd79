use Rattle.dconf_waits.proofs.TakingProofs.{forks_are_paused_for}
use Rattle.dconf_waits.proofs.forks_are_paused_for.Goals as goal

pub returns : goal.returns
returns c = forks_are_paused_for
