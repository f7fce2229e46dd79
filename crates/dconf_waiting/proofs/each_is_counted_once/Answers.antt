use Rattle.dconf_waiting.proofs.FateLaws.{each_is_counted_once}
use Rattle.dconf_waiting.proofs.each_is_counted_once.Goals as goal

pub returns : goal.returns
returns c = each_is_counted_once
