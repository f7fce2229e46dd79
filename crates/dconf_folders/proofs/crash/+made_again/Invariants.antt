use Rattle.std.proofs.Common.{length}
use Rattle.dconf_folders.proofs.crash.+made_again.Given as goal

abbrev pub decreases-made_again : goal.decreases-made_again
decreases-made_again l = length l.calls.now
