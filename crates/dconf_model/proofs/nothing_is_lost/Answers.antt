use Rattle.dconf_model.proofs.SurvivalLaws.{nothing_is_lost, next_run_finds_all}
use Rattle.dconf_model.proofs.nothing_is_lost.Goals as goal

pub returns : goal.returns
returns c = record { left = nothing_is_lost; found = next_run_finds_all }
