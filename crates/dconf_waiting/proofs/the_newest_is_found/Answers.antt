use Rattle.dconf_waiting.proofs.TableLaws.{the_newest_is_found}
use Rattle.dconf_waiting.proofs.the_newest_is_found.Goals as goal

pub returns : goal.returns
returns c = the_newest_is_found
