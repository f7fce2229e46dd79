use Rattle.dconfdb_calls.proofs.AfterTurns.{turns_give_values}
use Rattle.dconfdb_calls.proofs.laws.turns_give_values.Goals as goal

pub returns : goal.returns
returns c = turns_give_values
