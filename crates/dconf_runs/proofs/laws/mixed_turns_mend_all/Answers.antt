use Rattle.dconf_runs.proofs.BadTurns.{mixed_turns_mend_all}
use Rattle.dconf_runs.proofs.laws.mixed_turns_mend_all.Goals as goal

pub returns : goal.returns
returns c = mixed_turns_mend_all
