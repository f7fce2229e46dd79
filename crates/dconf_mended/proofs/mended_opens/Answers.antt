use Rattle.dconf_mended.proofs.MendLaws.{mended_opens}
use Rattle.dconf_mended.proofs.mended_opens.Goals as goal

pub returns : goal.returns
returns c = mended_opens
