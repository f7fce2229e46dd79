use Rattle.std.proofs.Common.{◌≡◌, drop}
use Rattle.std.specs.List.{list_any}
use Rattle.dconf_times.specs.Seeing.{is_made_at}
use Rattle.dconf_times.proofs.times.DconfdbTime.is_made.Given as goal

-- the rest decides
abbrev pub invariant-loop-one : goal.invariant-loop-one
invariant-loop-one l = list_any (is_made_at l.self) (drop l.one-index l.made) ≡ list_any (is_made_at l.self) l.made
