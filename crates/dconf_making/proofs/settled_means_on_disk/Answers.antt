use Rattle.dconf_making.proofs.SettlingLaws.{settled_means_on_disk}
use Rattle.dconf_making.proofs.settled_means_on_disk.Goals as goal

pub returns : goal.returns
returns c = settled_means_on_disk
