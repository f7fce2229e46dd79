use Rattle.dconf_seen.proofs.SeenLaws.{seen_is_found}
use Rattle.dconf_seen.proofs.seen_is_found.Goals as goal

pub returns : goal.returns
returns c = seen_is_found
