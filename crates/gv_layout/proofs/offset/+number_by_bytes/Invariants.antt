use Rattle.std.proofs.Common.{length}
use Rattle.gv_layout.proofs.offset.+number_by_bytes.Given as goal

abbrev pub decreases-number_by_bytes : goal.decreases-number_by_bytes
decreases-number_by_bytes l = length l.bytes.now
