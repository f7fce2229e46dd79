use Rattle.dconf_files.proofs.OwnerLaws.{nobody_gains}
use Rattle.dconf_files.proofs.nobody_gains.Goals as goal

pub returns : goal.returns
returns c = nobody_gains
