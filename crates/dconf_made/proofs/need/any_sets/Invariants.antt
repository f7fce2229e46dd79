use Rattle.std.proofs.Common.{◌≡◌, drop}
use Rattle.std.specs.List.{list_any}
use Rattle.dconf_made.proofs.need.any_sets.Given as goal

-- those that are left answer for all
abbrev pub invariant-loop-change : goal.invariant-loop-change
invariant-loop-change l = list_any (λ c. c.sets) (drop l.change-index l.changes) ≡ list_any (λ c. c.sets) l.changes
