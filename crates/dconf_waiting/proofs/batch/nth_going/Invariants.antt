use Rattle.std.proofs.Common.{◌≡◌, ◌≤◌}
use Rattle.dconf_waiting.specs.Batches.{count_going, nth_going}
use Rattle.dconf_waiting.proofs.batch.nth_going.Given as goal

-- of the edits before this one it is the one, and so many go, which are no more than there are
abbrev pub invariant-loop-at : goal.invariant-loop-at
invariant-loop-at l = (l.found ≡ nth_going l.edits l.nth l.at) × ((l.count ≡ count_going l.edits l.at) × (l.count ≤ l.at))
