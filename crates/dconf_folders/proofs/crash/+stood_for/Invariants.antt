use Rattle.std.proofs.Common.{length}
use Rattle.dconf_folders.proofs.crash.+stood_for.Given as goal

abbrev pub decreases-stood_for : goal.decreases-stood_for
decreases-stood_for l = length l.calls.now
