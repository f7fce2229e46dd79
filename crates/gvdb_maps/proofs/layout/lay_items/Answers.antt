use Rattle.std.proofs.Common.{rules, length, arith, subst, ◌<◌}
use Rattle.dconf_model.proofs.PlanEnds.{keys_rise}
use Rattle.gvdb_maps.specs.PlanWords.{entries_of}
use Rattle.gv_model.specs.Limits.{limit}
use Rattle.gvdb_maps.specs.LayoutParts.{all_keys_end, table_end, laid_end}
use Rattle.gvdb_maps.proofs.PastEnds.{still_past}
use Rattle.gvdb_maps.proofs.layout.lay_items.Goals as goal

pub returns-in_err-pointer-clause-fault : goal.returns-in_err-pointer-clause-fault
returns-in_err-pointer-clause-fault c =
    let items = c.args.items.now in
    let rise = keys_rise (entries_of items) (table_end c.args.cursor.now.at (length items)) (length items) in
    still_past c.from_residual.result (table_end c.args.cursor.now.at (length items)) (laid_end c.args.cursor.now.at items) (λ past. omega (arith, rise, past)) (search rules)

pub returns-in_err-lay_keys-clause-fault : goal.returns-in_err-lay_keys-clause-fault
returns-in_err-lay_keys-clause-fault c =
    let items = c.args.items.now in
    still_past c.from_residual-in_err-lay_keys.result (all_keys_end c.lay_table.new.cursor.at items) (laid_end c.args.cursor.now.at items) (subst (λ n. limit < all_keys_end n items) c.in_ok-pointer.ensures.at) (search rules)
