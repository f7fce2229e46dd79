use Rattle.std.proofs.Common.{List, map, drop}
use Rattle.dconf_times.specs.Noted.{AreAdded}
use Rattle.dconf_times.specs.Times.{Note, note_of}
use Rattle.dconf_times.proofs.notes.note_each.Given as goal

-- whoever adds the rest adds all
abbrev pub invariant-loop-time : goal.invariant-loop-time
invariant-loop-time l = (last : List Note) → AreAdded l.now l.most (map note_of (drop l.time-index l.times)) (map note_of l.kept.items) last → AreAdded l.now l.most (map note_of l.times) (map note_of l.fn.kept.items) last
