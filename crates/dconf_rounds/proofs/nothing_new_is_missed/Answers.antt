use Rattle.dconf_rounds.proofs.GlanceLaws.{nothing_new_is_missed}
use Rattle.dconf_rounds.proofs.nothing_new_is_missed.Goals as goal

pub returns : goal.returns
returns c = nothing_new_is_missed
