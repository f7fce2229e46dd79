use Rattle.dconf_changesets.proofs.AskingLaws.{the_newest_is_asked}
use Rattle.dconf_changesets.proofs.the_newest_is_asked.Goals as goal

pub returns : goal.returns
returns c = the_newest_is_asked
