use Rattle.std.proofs.Common.{length}
use Rattle.dconf_folders.proofs.calls.+file_of.Given as goal

abbrev pub decreases-file_of : goal.decreases-file_of
decreases-file_of l = length l.calls.now
