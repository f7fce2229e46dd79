use Rattle.dconfdb_values.proofs.NumberLaws.{one_truth, zero_truth}
use Rattle.dconfdb_values.proofs.numbers.truth_in.Goals as goal

pub returns-then-n-eq0 : goal.returns-then-n-eq0
returns-then-n-eq0 c = zero_truth _ _ c.one_byte-n.ensures c.if-n-eq0.true

pub returns-else-n-eq0 : goal.returns-else-n-eq0
returns-else-n-eq0 c = one_truth _ _ c.one_byte-n.ensures c.if-n-eq0.false
