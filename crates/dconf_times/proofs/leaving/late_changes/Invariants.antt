use Rattle.std.proofs.Common.{◌≡◌, ◌++◌, map, drop}
use Rattle.std.specs.List.{filter}
use Rattle.dconf_times.specs.Leaving.{is_late}
use Rattle.dconf_times.specs.Seeing.{seen_of}
use Rattle.dconf_times.specs.Times.{note_of}
use Rattle.dconf_times.proofs.leaving.late_changes.Given as goal

-- what is there, and the rest
abbrev pub invariant-loop-edit : goal.invariant-loop-edit
invariant-loop-edit l =
    l.late.items ++ map (λ e. e.change) (filter (is_late l.now (map note_of l.notes) (map seen_of l.seen)) (drop l.edit-index l.edits))
    ≡ map (λ e. e.change) (filter (is_late l.now (map note_of l.notes) (map seen_of l.seen)) l.edits)
