use Rattle.std.proofs.Common.{◌≡◌, ◌==◌, drop}
use Rattle.std.specs.List.{list_any}
use Rattle.dconf_times.proofs.leaving.has.Given as goal

-- the rest decides
abbrev pub invariant-loop-n : goal.invariant-loop-n
invariant-loop-n l = list_any (λ n. n == l.number) (drop l.n-index l.numbers) ≡ list_any (λ n. n == l.number) l.numbers
