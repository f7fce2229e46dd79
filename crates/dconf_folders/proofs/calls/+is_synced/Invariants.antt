use Rattle.std.proofs.Common.{length}
use Rattle.dconf_folders.proofs.calls.+is_synced.Given as goal

abbrev pub decreases-is_synced : goal.decreases-is_synced
decreases-is_synced l = length l.calls.now
