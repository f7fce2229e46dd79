use Rattle.std.proofs.Common.{◌≡◌, ◌++◌, drop}
use Rattle.std.specs.List.{filter}
use Rattle.dconf_times.specs.Seeing.{stays_beside}
use Rattle.dconf_times.proofs.seeing.beside.Given as goal

-- what is there, and the rest
abbrev pub invariant-loop-note : goal.invariant-loop-note
invariant-loop-note l = l.rest.items ++ filter (stays_beside l.made) (drop l.note-index l.notes) ≡ filter (stays_beside l.made) l.notes
