use Rattle.dconf_options.proofs.OptionProofs.{no_word_is_lost}
use Rattle.dconf_options.proofs.no_word_is_lost.Goals as goal

pub returns : goal.returns
returns c = no_word_is_lost
