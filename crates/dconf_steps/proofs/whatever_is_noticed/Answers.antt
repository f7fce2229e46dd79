use Rattle.dconf_steps.proofs.NoticeProofs.{whatever_is_noticed}
use Rattle.dconf_steps.proofs.whatever_is_noticed.Goals as goal

pub returns : goal.returns
returns c = whatever_is_noticed
