use Rattle.dconf_times.proofs.SeeingLaws.{the_latest_note_counts}
use Rattle.dconf_times.proofs.laws.the_latest_note_counts.Goals as goal

pub returns : goal.returns
returns c = the_latest_note_counts
