use Rattle.std.proofs.Common.{◌≡◌, ◌<◌, ◌≤◌, ◌+◌, ◌-◌, ℕ, length, drop}
use Rattle.std.specs.Prelude.{◌≢◌, slice_index}
use Rattle.gvdb_alike.proofs.span.same_from.Given as goal

-- from there on both are the same; where no step is left, not from before
abbrev pub invariant-loop-step : goal.invariant-loop-step
invariant-loop-step l = record {
  same : drop l.end l.one ≡ drop l.end l.other;
  within : l.end ≤ length l.one;
  differs : l.step ≡ 0 → 0 < l.end → slice_index l.one (l.end - 1) ≢ slice_index l.other (l.end - 1);
}

abbrev pub decreases-loop-step : goal.decreases-loop-step
decreases-loop-step l = l.end + l.step
