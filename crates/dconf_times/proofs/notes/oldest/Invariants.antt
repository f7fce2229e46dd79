use Rattle.std.proofs.Common.{◌<◌, ◌≤◌, ℕ, length, get_or}
use Rattle.dconf_times.specs.declared.times.DconfdbTime.{DconfdbTime}
use Rattle.dconf_times.proofs.notes.oldest.Given as goal

-- it is no later than those before
abbrev pub invariant-loop-at : goal.invariant-loop-at
invariant-loop-at l = record {
  inside : l.oldest < length l.times;
  least : (k : ℕ) (d : DconfdbTime) → k < l.at → (get_or l.times l.oldest d).when ≤ (get_or l.times k d).when;
}
