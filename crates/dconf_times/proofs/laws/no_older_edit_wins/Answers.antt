use Rattle.dconf_times.proofs.LeavingLaws.{no_older_wins}
use Rattle.dconf_times.proofs.laws.no_older_edit_wins.Goals as goal

pub returns : goal.returns
returns c = no_older_wins
