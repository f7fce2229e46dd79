use Rattle.dconf_making.proofs.EndingLaws.{endings_are_so}
use Rattle.dconf_making.proofs.endings_are_so.Goals as goal

pub returns : goal.returns
returns c = endings_are_so
