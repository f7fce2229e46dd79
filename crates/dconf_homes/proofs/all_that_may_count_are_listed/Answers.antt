use Rattle.dconf_homes.proofs.LookProofs.{all_are_listed}
use Rattle.dconf_homes.proofs.all_that_may_count_are_listed.Goals as goal

pub returns : goal.returns
returns c = all_are_listed
