use Rattle.std.proofs.Common.{length}
use Rattle.dconf_folders.proofs.calls.+was_named.Given as goal

abbrev pub decreases-was_named : goal.decreases-was_named
decreases-was_named l = length l.calls.now
