use Rattle.std.proofs.Common.{length}
use Rattle.dconf_folders.proofs.calls.+files_made.Given as goal

abbrev pub decreases-files_made : goal.decreases-files_made
decreases-files_made l = length l.calls.now
