use Rattle.dconf_steps.proofs.QueueProofs.{whatever_is_written}
use Rattle.dconf_steps.proofs.whatever_is_written.Goals as goal

pub returns : goal.returns
returns c = whatever_is_written
