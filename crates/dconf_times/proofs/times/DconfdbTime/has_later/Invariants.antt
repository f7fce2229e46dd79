use Rattle.std.proofs.Common.{◌≡◌, drop}
use Rattle.std.specs.List.{list_any}
use Rattle.dconf_times.specs.Seeing.{is_later_there}
use Rattle.dconf_times.proofs.times.DconfdbTime.has_later.Given as goal

-- the rest decides
abbrev pub invariant-loop-other : goal.invariant-loop-other
invariant-loop-other l = list_any (is_later_there l.path l.self) (drop l.other-index l.notes) ≡ list_any (is_later_there l.path l.self) l.notes
