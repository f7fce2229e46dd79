use Rattle.std.proofs.Common.{rules, tests}
use Rattle.std.proofs.lemmas.Iterator.{cases_from_all, YieldsList-from_slice}
use Rattle.gv_model.specs.BasicValue.{number_in}
use Rattle.dconf_model.specs.Sound.{IsChild}
use Rattle.gvdb_format.specs.Tables.{region}
use Rattle.gvdb_check.proofs.ListNumbers.{each_has}
use Rattle.gvdb_check.proofs.lists.lists_children_alone.Goals as goal

pub returns : goal.returns
returns c =
    let t = region c.args.table in
    each_has t c.args.i c.numbers.result.now (IsChild t c.args.i) _ c.numbers.ensures
    (cases_from_all _ _ _ (λ x. IsChild t c.args.i (number_in x)) (λ x. IsChild t c.args.i (number_in x) → ⊥) c.all.ensures.ran
    (YieldsList-from_slice c.numbers.result.now cc) (λ x q k. search (rules, tests)) (λ x q k. search (rules, tests)))
