use Rattle.dconf_model.proofs.LaidSound.{laid_is_sound, rows_are_entries}
use Rattle.dconf_model.proofs.a_laid_table_is_sound.Goals as goal

pub returns-clause-sound : goal.returns-clause-sound
returns-clause-sound c = laid_is_sound

pub returns-clause-rows : goal.returns-clause-rows
returns-clause-rows c = rows_are_entries
