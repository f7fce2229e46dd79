use Rattle.dconf_rounds.proofs.TellLaws.{what_is_heard_is_told}
use Rattle.dconf_rounds.proofs.what_is_heard_is_told.Goals as goal

pub returns : goal.returns
returns c = what_is_heard_is_told
