use Rattle.std.proofs.Common.{length}
use Rattle.dconf_roles.proofs.folders.+sources_in.Given as goal

abbrev pub decreases-sources_in : goal.decreases-sources_in
decreases-sources_in l = length l.folders.now
