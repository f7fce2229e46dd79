use Rattle.dconf_model.proofs.EmptyFolders.{empty_prints_nothing}
use Rattle.dconf_model.proofs.ProgramLaws.{questions_are_answered}
use Rattle.dconf_model.proofs.RunChanges.{changes_are_kept, program_gives}
use Rattle.dconf_model.proofs.a_program_gives_what_was_written.Goals as goal

pub returns : goal.returns
returns c = record { answers = questions_are_answered; none = empty_prints_nothing; changes = changes_are_kept; whole = program_gives }
