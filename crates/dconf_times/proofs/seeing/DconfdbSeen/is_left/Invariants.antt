use Rattle.std.proofs.Common.{◌≡◌, drop}
use Rattle.std.specs.List.{list_any}
use Rattle.dconf_times.specs.Seeing.{is_left_by}
use Rattle.dconf_times.proofs.seeing.DconfdbSeen.is_left.Given as goal

-- the rest decides
abbrev pub invariant-loop-note : goal.invariant-loop-note
invariant-loop-note l = list_any (is_left_by l.notes l.self) (drop l.note-index l.notes) ≡ list_any (is_left_by l.notes l.self) l.notes
