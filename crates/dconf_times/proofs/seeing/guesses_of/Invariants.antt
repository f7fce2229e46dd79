use Rattle.std.proofs.Common.{◌≡◌, ◌++◌, map, drop}
use Rattle.std.specs.List.{filter}
use Rattle.dconf_times.specs.Seeing.{is_unnoted}
use Rattle.dconf_times.proofs.seeing.guesses_of.Given as goal

-- what is there, and the rest
abbrev pub invariant-loop-one : goal.invariant-loop-one
invariant-loop-one l = l.guesses.items ++ map (λ s. s.time) (filter (is_unnoted l.notes) (drop l.one-index l.seen)) ≡ map (λ s. s.time) (filter (is_unnoted l.notes) l.seen)
