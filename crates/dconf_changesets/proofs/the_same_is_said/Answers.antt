use Rattle.dconf_changesets.proofs.SayingLaws.{the_same_is_said}
use Rattle.dconf_changesets.proofs.the_same_is_said.Goals as goal

pub returns : goal.returns
returns c = the_same_is_said
