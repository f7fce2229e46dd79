use Rattle.std.proofs.Common.{◌≡◌}
use Rattle.dconf_times.proofs.notes.raise.Given as goal

abbrev pub invariant-loop-at : goal.invariant-loop-at
invariant-loop-at l = l.kept ≡ l.fn.kept
