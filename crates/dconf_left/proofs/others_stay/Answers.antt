use Rattle.dconf_left.proofs.StateLaws.{others_stay}
use Rattle.dconf_left.proofs.others_stay.Goals as goal

pub returns : goal.returns
returns c = others_stay
