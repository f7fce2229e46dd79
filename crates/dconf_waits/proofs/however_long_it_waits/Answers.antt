use Rattle.dconf_waits.proofs.WaitProofs.{however_long_it_waits}
use Rattle.dconf_waits.proofs.however_long_it_waits.Goals as goal

pub returns : goal.returns
returns c = however_long_it_waits
