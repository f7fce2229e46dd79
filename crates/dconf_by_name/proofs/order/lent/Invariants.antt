use Rattle.std.proofs.Common.{◌≡◌, map, take}
use Rattle.dconf_by_name.specs.Meant.{line_meant, placed_meant}
use Rattle.dconf_by_name.proofs.order.lent.Given as goal

abbrev pub invariant-loop-it : goal.invariant-loop-it
invariant-loop-it l = map line_meant l.lines.items ≡ map placed_meant (take l.it-index l.placed)
