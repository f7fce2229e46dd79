use Rattle.dconf_changesets.proofs.SayingLaws.{stored_counts_in_silence}
use Rattle.dconf_changesets.proofs.stored_counts_in_silence.Goals as goal

pub returns : goal.returns
returns c = stored_counts_in_silence
