use Rattle.dconf_files.proofs.LockLaws.{who_writes_locks}
use Rattle.dconf_files.proofs.who_writes_locks.Goals as goal

pub returns : goal.returns
returns c = who_writes_locks
