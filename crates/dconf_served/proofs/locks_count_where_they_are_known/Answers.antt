use Rattle.dconf_served.proofs.ServedLaws.{locks_count_where_they_are_known}
use Rattle.dconf_served.proofs.locks_count_where_they_are_known.Goals as goal

pub returns : goal.returns
returns c = locks_count_where_they_are_known
