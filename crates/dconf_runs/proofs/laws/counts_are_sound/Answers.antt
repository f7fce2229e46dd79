use Rattle.dconf_runs.proofs.CountedFiles.{counts_are_sound}
use Rattle.dconf_runs.proofs.laws.counts_are_sound.Goals as goal

pub returns : goal.returns
returns c = counts_are_sound
