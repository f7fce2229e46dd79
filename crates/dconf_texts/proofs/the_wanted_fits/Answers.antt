use Rattle.dconf_texts.proofs.WantedLaws.{the_wanted_fits}
use Rattle.dconf_texts.proofs.the_wanted_fits.Goals as goal

pub returns : goal.returns
returns c = the_wanted_fits
