use Rattle.dconf_rounds.proofs.ReadingLaws.{what_is_not_asked_is_not_read}
use Rattle.dconf_rounds.proofs.what_is_not_asked_is_not_read.Goals as goal

pub returns : goal.returns
returns c = what_is_not_asked_is_not_read
