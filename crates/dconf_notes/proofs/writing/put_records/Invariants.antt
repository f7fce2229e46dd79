use Rattle.std.proofs.Common.{◌≡◌, ◌++◌, length, drop}
use Rattle.dconf_notes.proofs.RoomLaws.{so_far}
use Rattle.dconf_notes.proofs.writing.put_records.Given as goal

-- the records so far, and the rest of the room
abbrev pub invariant-loop-note : goal.invariant-loop-note
invariant-loop-note l = (l.room ≡ so_far l.notes l.note-index ++ drop l.at l.fn.room) × (l.at ≡ length (so_far l.notes l.note-index))
