use Rattle.dconf_steps.proofs.NoticeProofs.{what_comes_is_due}
use Rattle.dconf_steps.proofs.what_comes_is_due.Goals as goal

pub returns : goal.returns
returns c = what_comes_is_due
