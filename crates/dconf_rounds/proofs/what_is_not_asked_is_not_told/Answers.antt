use Rattle.dconf_rounds.proofs.TellLaws.{what_is_not_asked_is_not_told}
use Rattle.dconf_rounds.proofs.what_is_not_asked_is_not_told.Goals as goal

pub returns : goal.returns
returns c = what_is_not_asked_is_not_told
