use Rattle.dconf_rounds.proofs.WriterLaws.{what_waits_is_written_or_told}
use Rattle.dconf_rounds.proofs.what_waits_is_written_or_told.Goals as goal

pub returns : goal.returns
returns c = what_waits_is_written_or_told
