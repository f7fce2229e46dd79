use Rattle.std.proofs.Common.{◌≡◌, map, drop}
use Rattle.std.specs.List.{list_any}
use Rattle.dconf_times.specs.Resets.{is_in_reset}
use Rattle.dconf_times.specs.Times.{note_of}
use Rattle.dconf_times.proofs.resets.is_in_reset.Given as goal

-- the rest decides
abbrev pub invariant-loop-other : goal.invariant-loop-other
invariant-loop-other l =
    list_any (is_in_reset (map note_of l.change)) (map note_of (drop l.other-index l.others))
    ≡ list_any (is_in_reset (map note_of l.change)) (map note_of l.others)
