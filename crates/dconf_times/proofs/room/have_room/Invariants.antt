use Rattle.std.proofs.Common.{◌≡◌, nat_le, drop}
use Rattle.dconf_times.specs.Room.{notes_bytes}
use Rattle.dconf_times.proofs.room.have_room.Given as goal

-- the rest decides
abbrev pub invariant-loop-note : goal.invariant-loop-note
invariant-loop-note l = nat_le (notes_bytes (drop l.note-index l.notes)) l.left ≡ nat_le (notes_bytes l.notes) l.most_bytes
