use Rattle.dconf_served.proofs.ServedLaws.{what_is_sent_counts}
use Rattle.dconf_served.proofs.what_is_sent_counts.Goals as goal

pub returns : goal.returns
returns c = what_is_sent_counts
