use Rattle.dconf_changesets.proofs.FastLaws.{what_is_told_waits}
use Rattle.dconf_changesets.proofs.what_is_told_waits.Goals as goal

pub returns : goal.returns
returns c = what_is_told_waits
