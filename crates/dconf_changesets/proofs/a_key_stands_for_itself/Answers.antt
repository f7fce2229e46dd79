use Rattle.dconf_changesets.proofs.FoundLaws.{a_key_stands_for_itself}
use Rattle.dconf_changesets.proofs.a_key_stands_for_itself.Goals as goal

pub returns : goal.returns
returns c = a_key_stands_for_itself
