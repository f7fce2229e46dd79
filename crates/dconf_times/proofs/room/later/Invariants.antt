use Rattle.std.proofs.Common.{◌≡◌, ◌++◌, filter, drop}
use Rattle.dconf_times.specs.Room.{is_since}
use Rattle.dconf_times.proofs.room.later.Given as goal

-- what is there, and the rest
abbrev pub invariant-loop-note : goal.invariant-loop-note
invariant-loop-note l = l.kept.items ++ filter (is_since l.when) (drop l.note-index l.notes) ≡ filter (is_since l.when) l.notes
