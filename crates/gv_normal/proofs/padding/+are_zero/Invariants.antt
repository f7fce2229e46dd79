use Rattle.std.proofs.Common.{length}
use Rattle.gv_normal.proofs.padding.+are_zero.Given as goal

abbrev pub decreases-are_zero : goal.decreases-are_zero
decreases-are_zero l = length l.bytes.now
