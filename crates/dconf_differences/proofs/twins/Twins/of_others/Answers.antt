use Rattle.std.proofs.Common.{◌∙◌, ap}
use Rattle.dconf_model.specs.Table.{item_count}
use Rattle.dconf_model.proofs.PathMaps.{no_truth}
use Rattle.gvdb_read.specs.Tables.{region}
use Rattle.gvdb_read.specs.declared.table.Table.{Table}
use Rattle.dconf_differences.proofs.TwinLaws.{nothing_outside}
use Rattle.dconf_differences.proofs.twins.Twins.of_others.Goals as goal

pub invariant_of-result : goal.invariant_of-result
invariant_of-result c =
    let all = c.n_items.ensures ∙ ap (λ (t : Table). item_count (region t)) c.table.ensures in
    record { named = λ there. absurd (no_truth there); alike = nothing_outside c.args.layer c.args.other c.n_items.result all }
