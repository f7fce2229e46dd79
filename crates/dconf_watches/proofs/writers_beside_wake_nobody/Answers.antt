use Rattle.dconf_watches.proofs.BitProofs.{writers_beside_wake_nobody}
use Rattle.dconf_watches.proofs.writers_beside_wake_nobody.Goals as goal

pub returns : goal.returns
returns c = writers_beside_wake_nobody
