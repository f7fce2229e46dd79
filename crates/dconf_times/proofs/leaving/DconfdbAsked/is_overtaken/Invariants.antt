use Rattle.std.proofs.Common.{◌≡◌, map, drop}
use Rattle.std.specs.List.{list_any}
use Rattle.dconf_times.specs.Leaving.{overtakes}
use Rattle.dconf_times.specs.Times.{note_of}
use Rattle.dconf_times.proofs.leaving.DconfdbAsked.is_overtaken.Given as goal

-- the rest decides
abbrev pub invariant-loop-note : goal.invariant-loop-note
invariant-loop-note l =
    list_any (overtakes l.now l.knows_better l.self) (map note_of (drop l.note-index l.notes)) ≡ list_any (overtakes l.now l.knows_better l.self) (map note_of l.notes)
