use Rattle.dconf_notes.proofs.RecordLaws.{says_one_thing}
use Rattle.dconf_notes.proofs.what_is_written_is_read.Goals as goal

pub returns : goal.returns
returns c = says_one_thing
