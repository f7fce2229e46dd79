use Rattle.std.proofs.Common.{◌≡◌, ◌∙◌, ap, sym, Some, slice_get}
use Rattle.std.specs.FinMap.{entries}
use Rattle.dconf_model.specs.Settings.{Settings}
use Rattle.dconf_engine.specs.Saved.{with_sets}
use Rattle.dconf_engine.proofs.SavedLaws.{saved_first}
use Rattle.dconf_engine.proofs.user_database.user_values.Goals as goal

pub returns : goal.returns
returns c =
    let changes = c.args.changes in
    let layers = c.args.layers.now in
    let first : slice_get layers 0 ≡ Some c.in-Some.first.now = sym c.in-Some.ensures.value in
    c.in_ok-move_sets.ensures ∙ (ap (λ (s : Settings). with_sets (entries changes) s) c.in_ok-values.ensures ∙ saved_first changes layers c.in-Some.first.now first)
