use Rattle.std.proofs.Common.{◌≡◌, map, max, drop}
use Rattle.dconf_times.specs.Times.{latest_of, note_of}
use Rattle.dconf_times.proofs.times.latest_of.Given as goal

-- the latest so far, or of the rest
abbrev pub invariant-loop-time : goal.invariant-loop-time
invariant-loop-time l = max l.latest (latest_of (map note_of (drop l.time-index l.times))) ≡ latest_of (map note_of l.times)
