use Rattle.dconf_waiting.proofs.FateLaws.{what_waits_is_in_order}
use Rattle.dconf_waiting.proofs.what_waits_is_in_order.Goals as goal

pub returns : goal.returns
returns c = what_waits_is_in_order
