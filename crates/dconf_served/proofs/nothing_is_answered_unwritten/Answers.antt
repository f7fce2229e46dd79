use Rattle.dconf_served.proofs.ServedLaws.{nothing_is_answered_unwritten}
use Rattle.dconf_served.proofs.nothing_is_answered_unwritten.Goals as goal

pub returns : goal.returns
returns c = nothing_is_answered_unwritten
