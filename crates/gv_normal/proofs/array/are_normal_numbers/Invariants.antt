use Rattle.std.proofs.Common.{◌≡◌, ◌≤◌, ◌+◌}
use Rattle.gv_normal.proofs.array.are_normal_numbers.Given as goal

abbrev pub invariant-loop : goal.invariant-loop
invariant-loop l = (l.steps ≡ l.fn.steps + l.counter) × (l.counter ≤ l.fn.count)
