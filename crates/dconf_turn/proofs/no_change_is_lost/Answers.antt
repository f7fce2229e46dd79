use Rattle.dconf_turn.specs.Survivals.{Makes}
use Rattle.dconf_turn.proofs.SurvivalLaws.{no_turn_is_lost}
use Rattle.dconf_turn.proofs.no_change_is_lost.Goals as goal

pub returns : goal.returns
returns c = no_turn_is_lost Makes
