use Rattle.dconf_served.proofs.ServedLaws.{what_came_first_is_first}
use Rattle.dconf_served.proofs.what_came_first_is_first.Goals as goal

pub returns : goal.returns
returns c = what_came_first_is_first
