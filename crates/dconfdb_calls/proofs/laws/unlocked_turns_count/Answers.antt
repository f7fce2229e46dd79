use Rattle.dconfdb_calls.proofs.Mixed.{unlocked_turns_count}
use Rattle.dconfdb_calls.proofs.laws.unlocked_turns_count.Goals as goal

pub returns : goal.returns
returns c = unlocked_turns_count
