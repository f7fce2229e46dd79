use Rattle.dconf_changesets.proofs.MakingLaws.{made_means_on_the_disk}
use Rattle.dconf_changesets.proofs.made_means_on_the_disk.Goals as goal

pub returns : goal.returns
returns c = made_means_on_the_disk
