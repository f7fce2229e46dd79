use Rattle.dconf_steps.proofs.LookProofs.{whatever_is_seen}
use Rattle.dconf_steps.proofs.whatever_is_seen.Goals as goal

pub returns : goal.returns
returns c = whatever_is_seen
