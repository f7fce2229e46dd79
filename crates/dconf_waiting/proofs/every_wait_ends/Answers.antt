use Rattle.dconf_waiting.proofs.PatienceLaws.{every_wait_ends}
use Rattle.dconf_waiting.proofs.every_wait_ends.Goals as goal

pub returns : goal.returns
returns c = every_wait_ends
