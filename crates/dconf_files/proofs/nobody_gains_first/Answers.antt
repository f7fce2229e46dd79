use Rattle.dconf_files.proofs.HandingLaws.{nobody_gains_first}
use Rattle.dconf_files.proofs.nobody_gains_first.Goals as goal

pub returns : goal.returns
returns c = nobody_gains_first
