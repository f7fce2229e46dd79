use Rattle.dconf_watches.proofs.FlagProofs.{no_reader_is_lost}
use Rattle.dconf_watches.proofs.no_reader_is_lost.Goals as goal

pub returns : goal.returns
returns c = no_reader_is_lost
