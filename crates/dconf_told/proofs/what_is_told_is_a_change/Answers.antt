use Rattle.dconf_told.proofs.ChangedLaws.{what_is_told_is_a_change}
use Rattle.dconf_told.proofs.what_is_told_is_a_change.Goals as goal

pub returns : goal.returns
returns c = what_is_told_is_a_change
