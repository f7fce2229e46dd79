use Rattle.std.proofs.Common.{length}
use Rattle.dconf_folders.proofs.calls.+content.Given as goal

abbrev pub decreases-content : goal.decreases-content
decreases-content l = length l.calls.now
