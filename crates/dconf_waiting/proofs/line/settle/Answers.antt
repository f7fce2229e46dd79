use Rattle.std.proofs.Common.{List, map, sym, subst}
use Rattle.std.specs.List.Sorted.{IsPermutation}
use Rattle.std.proofs.lemmas.List.Sorted.{IsPermutation-map, IsPermutation-trans}
use Rattle.dconf_waiting.specs.declared.fate.Waiter.{Waiter}
use Rattle.dconf_waiting.specs.Fates.{marked}
use Rattle.dconf_waiting.proofs.line.settle.Goals as goal

pub returns-clause-all : goal.returns-clause-all
returns-clause-all c =
    let moved = IsPermutation-map (marked c.args.is_written) c.args.line.now c.order.new.line c.order.ensures.all in
    let before : List Waiter = map (marked c.args.is_written) c.args.line.now in
    IsPermutation-trans _ _ _ (subst (λ (l : List Waiter). IsPermutation before l) (sym c.mark.ensures) moved) c.gather-count.ensures.all
