use Rattle.dconf_texts.proofs.ReadingLaws.{causes_are_there}
use Rattle.dconf_texts.proofs.causes_are_there.Goals as goal

pub returns : goal.returns
returns c = causes_are_there
