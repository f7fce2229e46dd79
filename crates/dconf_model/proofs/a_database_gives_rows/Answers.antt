use Rattle.dconf_model.proofs.DatabasesGiven.{missing_gives_nothing, compiled_gives}
use Rattle.dconf_model.proofs.SoundGiven.{sound_gives}
use Rattle.dconf_model.proofs.a_database_gives_rows.Goals as goal

pub returns : goal.returns
returns c = record { missing = missing_gives_nothing; compiled = compiled_gives; sound = sound_gives }
