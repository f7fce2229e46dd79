use Rattle.std.proofs.Common.{◌≡◌, ◌∙◌, ◌-◌, ap, arith, ℕ}
use Rattle.gvdb_read.specs.Tables.{region}
use Rattle.dconf_layers.specs.LayerRows.{items_of, rows_from}
use Rattle.dconf_layers.proofs.EntryLaws.{all_rows}
use Rattle.dconf_layers.proofs.layer.Layer.entries.Goals as goal

pub returns : goal.returns
returns c =
    let t = region c.args.self.values in
    let n = items_of c.args.self in
    let whole : n - 0 ≡ n = omega arith in
    c.entries_in.ensures ∙ ap (λ (m : ℕ). rows_from t 0 (m - 0)) c.n_items.ensures ∙ ap (λ (m : ℕ). rows_from t 0 m) whole ∙ all_rows t n
