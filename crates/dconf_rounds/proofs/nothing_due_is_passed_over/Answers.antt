use Rattle.dconf_rounds.proofs.RoundLaws.{nothing_due_is_passed_over}
use Rattle.dconf_rounds.proofs.nothing_due_is_passed_over.Goals as goal

pub returns : goal.returns
returns c = nothing_due_is_passed_over
