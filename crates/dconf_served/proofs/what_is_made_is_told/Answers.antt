use Rattle.dconf_served.proofs.ServedLaws.{what_is_made_is_told}
use Rattle.dconf_served.proofs.what_is_made_is_told.Goals as goal

pub returns : goal.returns
returns c = what_is_made_is_told
