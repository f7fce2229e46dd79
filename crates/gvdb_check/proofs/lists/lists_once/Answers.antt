use Rattle.std.proofs.Common.{rules, tests, refl, length, arith}
use Rattle.std.proofs.lemmas.Iterator.{cases_from_all, YieldsList-from_range}
use Rattle.gvdb_check.specs.ListNumbers.{IsFirstAt}
use Rattle.gvdb_format.specs.Tables.{region}
use Rattle.gvdb_check.proofs.ListNumbers.{once_where_first}
use Rattle.gvdb_check.proofs.lists.lists_once.Goals as goal

pub returns : goal.returns
returns c =
    let numbers = c.numbers-numbers.result.now in
    once_where_first (region c.args.table) c.args.i (length numbers) numbers _ c.numbers-numbers.ensures refl
    (cases_from_all _ _ _ (IsFirstAt numbers) (λ k. IsFirstAt numbers k → ⊥) c.all.ensures.ran
    (YieldsList-from_range 0 (length numbers) (length numbers) refl (omega arith)) (λ x q k. search (rules, tests)) (λ x q k. search (rules, tests)))
