use Rattle.std.proofs.Common.{rules, ℕ, ◌+◌, ◌-◌, length, get_or, refl}
use Rattle.std.proofs.lemmas.List.{get_or_default}
use Rattle.gv_model.specs.Limits.{limit}
use Rattle.gvdb_maps.specs.declared.names.Named.{Named}
use Rattle.gvdb_maps.specs.LayoutParts.{all_keys_end}
use Rattle.gvdb_maps.specs.PlanWords.{no_name}
use Rattle.gvdb_maps.proofs.PastEnds.{still_past}
use Rattle.gvdb_maps.proofs.LaidRows.{no_item, past_all}
use Rattle.gvdb_maps.proofs.layout.lay_keys.Goals as goal

pub returns-in_err-lay-clause-fault : goal.returns-in_err-lay-clause-fault
returns-in_err-lay-clause-fault c =
    let items = c.args.items.now in
    let n = c.loop-named.named-index in
    let item : Named = get_or items n no_item in
    let size : ℕ = length item.name.now - item.from in
    still_past c.from_residual.result (c.loop-named.cursor.at + size) (all_keys_end c.args.cursor.now.at items)
    (past_all items c.args.cursor.now.at c.loop-named.cursor.at n size limit item c.loop-named-test.true c.loop-named.invariant
    (get_or_default items n no_item no_name c.loop-named-test.true) refl)
    (search rules)
