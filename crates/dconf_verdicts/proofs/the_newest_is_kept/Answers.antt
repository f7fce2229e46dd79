use Rattle.dconf_verdicts.proofs.VerdictLaws.{newest_is_kept}
use Rattle.dconf_verdicts.proofs.the_newest_is_kept.Goals as goal

pub returns : goal.returns
returns c = newest_is_kept
