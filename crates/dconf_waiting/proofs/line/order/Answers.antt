use Rattle.std.proofs.Common.{rules}
use Rattle.std.proofs.lemmas.List.Sorted.{IsNonDecreasingBy-from_sort_by_key}
use Rattle.dconf_waiting.proofs.line.order.Goals as goal

pub returns-clause-in_turn : goal.returns-clause-in_turn
returns-clause-in_turn c = IsNonDecreasingBy-from_sort_by_key (λ w. w.set) _ c.sort_unstable_by_key.ensures.sorted (λ a r q k. search rules)
