use Rattle.dconf_left.proofs.StateLaws.{left_is_found}
use Rattle.dconf_left.proofs.what_is_left_is_found.Goals as goal

pub returns : goal.returns
returns c = left_is_found
