use Rattle.dconf_made.proofs.LeftLaws.{each_is_there_already}
use Rattle.dconf_made.proofs.each_is_there_already.Goals as goal

pub returns : goal.returns
returns c = each_is_there_already
