use Rattle.std.proofs.Common.{◌≡◌, ◌++◌, ◌==◌, map, drop}
use Rattle.std.specs.List.{list_any}
use Rattle.dconf_times.proofs.leaving.of_changes.Given as goal

-- what is there, and the rest
abbrev pub invariant-loop-edit : goal.invariant-loop-edit
invariant-loop-edit l =
    l.are.items ++ map (λ e. list_any (λ n. n == e.change) l.numbers) (drop l.edit-index l.edits) ≡ map (λ e. list_any (λ n. n == e.change) l.numbers) l.edits
