use Rattle.std.specs.List.Sorted.{IsPermutation}
use Rattle.std.proofs.lemmas.List.Filters.{FiltersInPlace}
use Rattle.dconf_waiting.specs.Fates.{waits}
use Rattle.dconf_waiting.proofs.line.gather.Given as goal

abbrev pub invariant-loop-at : goal.invariant-loop-at
invariant-loop-at l = FiltersInPlace waits l.initial.line l.line l.count l.at × IsPermutation l.initial.line l.line
