use Rattle.dconf_notes.proofs.TurnLaws.{the_next_turn_reads}
use Rattle.dconf_notes.proofs.what_a_turn_notes_is_read.Goals as goal

pub returns : goal.returns
returns c = the_next_turn_reads
