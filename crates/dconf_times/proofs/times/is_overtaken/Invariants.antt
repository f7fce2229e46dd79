use Rattle.std.proofs.Common.{◌≡◌, map, drop}
use Rattle.dconf_times.specs.Times.{is_overtaken, note_of}
use Rattle.dconf_times.proofs.times.is_overtaken.Given as goal

-- the rest decides
abbrev pub invariant-loop-time : goal.invariant-loop-time
invariant-loop-time l = is_overtaken l.now l.path l.when (map note_of (drop l.time-index l.times)) ≡ is_overtaken l.now l.path l.when (map note_of l.times)
