use Rattle.dconf_places.proofs.Holding.{no_variable_counts}
use Rattle.dconf_places.proofs.no_variable_counts_for_more_rights.Goals as goal

pub returns : goal.returns
returns c = no_variable_counts
