use Rattle.dconf_parts.proofs.SeveralLaws.{what_differs_is_seen}
use Rattle.dconf_parts.proofs.what_differs_is_seen.Goals as goal

pub returns : goal.returns
returns c = what_differs_is_seen
