use Rattle.dconf_found.proofs.EitherKinds.{whole_in_either_kind}
use Rattle.dconf_found.proofs.a_turn_is_whole_in_either_kind.Goals as goal

pub returns : goal.returns
returns c = whole_in_either_kind
