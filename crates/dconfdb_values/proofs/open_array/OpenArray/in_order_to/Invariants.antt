use Rattle.std.proofs.Common.{◌≤◌}
use Rattle.dconfdb_values.specs.OpenArrays.{in_order_of}
use Rattle.dconfdb_values.proofs.open_array.OpenArray.in_order_to.Given as goal

abbrev pub invariant-loop-k : goal.invariant-loop-k
invariant-loop-k l = l.k ≤ in_order_of l.fn.self
