use Rattle.dconfdb_calls.proofs.Mixed.{mixed_turns_give_all}
use Rattle.dconfdb_calls.proofs.laws.mixed_turns_give_all.Goals as goal

pub returns : goal.returns
returns c = mixed_turns_give_all
