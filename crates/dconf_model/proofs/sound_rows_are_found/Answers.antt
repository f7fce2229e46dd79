use Rattle.dconf_model.proofs.SoundRows.{sound_finds_rows, locks_are_searchable}
use Rattle.dconf_model.proofs.sound_rows_are_found.Goals as goal

pub returns-clause-root : goal.returns-clause-root
returns-clause-root c = sound_finds_rows

pub returns-clause-locks : goal.returns-clause-locks
returns-clause-locks c = locks_are_searchable
