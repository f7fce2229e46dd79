use Rattle.std.proofs.Common.{◌≡◌, ◌+◌, length}
use Rattle.dconf_notes.proofs.RoomLaws.{so_far}
use Rattle.dconf_notes.proofs.writing.len_of.Given as goal

-- what is counted
abbrev pub invariant-loop-note : goal.invariant-loop-note
invariant-loop-note l = l.len ≡ 24 + length (so_far l.notes l.note-index)
