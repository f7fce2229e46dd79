use Rattle.std.proofs.Common.{◌≡◌, map, drop}
use Rattle.std.specs.List.{list_any}
use Rattle.dconf_times.specs.Resets.{is_in}
use Rattle.dconf_times.specs.Times.{note_of}
use Rattle.dconf_times.proofs.resets.has_in.Given as goal

-- the rest decides
abbrev pub invariant-loop-edit : goal.invariant-loop-edit
invariant-loop-edit l =
    list_any (is_in l.directory) (map note_of (drop l.edit-index l.change)) ≡ list_any (is_in l.directory) (map note_of l.change)
