use Rattle.dconf_steps.proofs.NoticeProofs.{what_is_told_is_noticed}
use Rattle.dconf_steps.proofs.what_is_told_is_noticed.Goals as goal

pub returns : goal.returns
returns c = what_is_told_is_noticed
