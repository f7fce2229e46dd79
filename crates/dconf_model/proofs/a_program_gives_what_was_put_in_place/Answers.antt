use Rattle.dconf_model.proofs.StandingLaws.{runs_are_kept, whole_program_gives}
use Rattle.dconf_model.proofs.a_program_gives_what_was_put_in_place.Goals as goal

pub returns : goal.returns
returns c = record { kept = runs_are_kept; whole = whole_program_gives }
