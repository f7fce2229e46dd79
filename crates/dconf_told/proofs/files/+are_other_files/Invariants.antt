use Rattle.std.proofs.Common.{length}
use Rattle.dconf_told.proofs.files.+are_other_files.Given as goal

-- what is passed over is not looked at again
abbrev pub decreases-are_other_files : goal.decreases-are_other_files
decreases-are_other_files l = length l.before.now
