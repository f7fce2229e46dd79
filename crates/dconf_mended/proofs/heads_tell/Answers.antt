use Rattle.dconf_mended.proofs.HeadLaws.{heads_tell}
use Rattle.dconf_mended.proofs.heads_tell.Goals as goal

pub returns : goal.returns
returns c = heads_tell
