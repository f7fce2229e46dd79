use Rattle.dconf_changesets.proofs.MakingLaws.{others_are_told_first}
use Rattle.dconf_changesets.proofs.others_are_told_first.Goals as goal

pub returns : goal.returns
returns c = others_are_told_first
