use Rattle.dconf_seen.proofs.SeenLaws.{own_is_found}
use Rattle.dconf_seen.proofs.own_is_found.Goals as goal

pub returns : goal.returns
returns c = own_is_found
