use Rattle.dconf_changesets.proofs.AskingLaws.{no_look_is_missed}
use Rattle.dconf_changesets.proofs.no_look_is_missed.Goals as goal

pub returns : goal.returns
returns c = no_look_is_missed
