use Rattle.std.proofs.Common.{◌≡◌, ◌<◌, ◌≤◌, ◌+◌, ◌-◌, ℕ, length, take}
use Rattle.std.specs.Prelude.{◌≢◌, slice_index}
use Rattle.gvdb_alike.proofs.span.same_before.Given as goal

-- up to there both are the same; where no step is left, no further
abbrev pub invariant-loop-step : goal.invariant-loop-step
invariant-loop-step l = record {
  same : take l.at l.one ≡ take l.at l.other;
  within : l.at ≤ length l.one;
  within_other : l.at ≤ length l.other;
  short : l.step ≤ 4096;
  differs : l.step ≡ 0 → l.at < length l.one → l.at < length l.other → slice_index l.one l.at ≢ slice_index l.other l.at;
}

abbrev pub decreases-loop-step : goal.decreases-loop-step
decreases-loop-step l = length l.one - l.at + l.step
