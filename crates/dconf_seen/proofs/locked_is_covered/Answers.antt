use Rattle.dconf_seen.proofs.CoveringLaws.{locked_is_covered}
use Rattle.dconf_seen.proofs.locked_is_covered.Goals as goal

pub returns : goal.returns
returns c = locked_is_covered
