use Rattle.std.proofs.Common.{◌≡◌, ◌++◌, map, drop}
use Rattle.std.specs.List.{filter}
use Rattle.dconf_times.specs.Times.{is_known, note_of}
use Rattle.dconf_times.proofs.notes.keep_known.Given as goal

-- what is kept, and the rest
abbrev pub invariant-loop-time : goal.invariant-loop-time
invariant-loop-time l =
    map note_of l.kept.items ++ filter (is_known l.now) (map note_of (drop l.time-index l.times)) ≡ map note_of l.fn.kept.items ++ filter (is_known l.now) (map note_of l.times)
