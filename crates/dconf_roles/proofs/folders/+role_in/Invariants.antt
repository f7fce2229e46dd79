use Rattle.std.proofs.Common.{length}
use Rattle.dconf_roles.proofs.folders.+role_in.Given as goal

abbrev pub decreases-role_in : goal.decreases-role_in
decreases-role_in l = length l.folders.now
