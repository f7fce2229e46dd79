use Rattle.dconf_model.proofs.AttemptLaws.{next_run_finds_all_of, nothing_is_lost_of_all}
use Rattle.dconf_model.proofs.nothing_put_in_place_is_lost.Goals as goal

pub returns : goal.returns
returns c = record { left = nothing_is_lost_of_all; found = next_run_finds_all_of }
