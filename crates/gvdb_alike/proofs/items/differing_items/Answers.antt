use Rattle.std.proofs.Common.{◌≡◌, rules, subst}
use Rattle.dconf_model.specs.Searchable.{EachItem}
use Rattle.dconf_model.specs.Table.{item_count}
use Rattle.gvdb_read.specs.declared.table.Table.{Table}
use Rattle.gvdb_read.specs.Tables.{region}
use Rattle.gvdb_alike.specs.NamesAlike.{AreStepsAlike}
use Rattle.gvdb_alike.proofs.NamedLaws.{steps_name}
use Rattle.gvdb_alike.proofs.items.differing_items.Goals as goal

pub returns-clause-named : goal.returns-clause-named
returns-clause-named c is =
    let t = region c.args.table in
    let u = region c.args.other in
    let counted : item_count t ≡ item_count u = search rules in
    let steps : EachItem t (AreStepsAlike t u) =
    subst (λ (a : Table). EachItem (region a) (AreStepsAlike (region a) u)) c.of.ensures.table
    (subst (λ (b : Table). EachItem (region c.of.result.table) (AreStepsAlike (region c.of.result.table) (region b))) c.of.ensures.other (c.items_of.ensures.steps is)) in
    steps_name t u counted steps
