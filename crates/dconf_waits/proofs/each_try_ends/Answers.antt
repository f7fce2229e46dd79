use Rattle.dconf_waits.proofs.TakingProofs.{each_try_ends}
use Rattle.dconf_waits.proofs.each_try_ends.Goals as goal

pub returns : goal.returns
returns c = each_try_ends
