use Rattle.dconf_changesets.proofs.FoundLaws.{found_is_said}
use Rattle.dconf_changesets.proofs.found_is_said.Goals as goal

pub returns : goal.returns
returns c = found_is_said
