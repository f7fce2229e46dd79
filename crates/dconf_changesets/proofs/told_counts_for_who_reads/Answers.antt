use Rattle.dconf_changesets.proofs.AskingLaws.{told_counts_for_who_reads}
use Rattle.dconf_changesets.proofs.told_counts_for_who_reads.Goals as goal

pub returns : goal.returns
returns c = told_counts_for_who_reads
