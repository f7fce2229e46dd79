use Rattle.dconf_seen.proofs.SeenLaws.{waiting_is_seen_as_made}
use Rattle.dconf_seen.proofs.waiting_is_seen_as_made.Goals as goal

pub returns : goal.returns
returns c = waiting_is_seen_as_made
