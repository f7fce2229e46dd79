use Rattle.std.proofs.Common.{◌≡◌, ◌∙◌, ◌++◌, ◌≤◌, List, ap, ap₂, length, map, rules, string_bytes, subst, sym}
use Rattle.std.specs.Prelude.{filter}
use Rattle.std.proofs.lemmas.List.{length-map, take_all}
use Rattle.std.proofs.lemmas.Result.{IfOk-weaker}
use Rattle.dconf_model.specs.Layers.{all_paths}
use Rattle.dconf_model.specs.Order.{listing}
use Rattle.dconf_model.specs.Settings.{Settings}
use Rattle.dconf_layers.specs.LayerSettings.{seen_in, settings_of}
use Rattle.dconf_differences.specs.Differing.{AreDiffering, first_keys}
use Rattle.dconf_compared.proofs.key_lines.changed.Goals as goal

pub returns : goal.returns
returns c =
    let l = seen_in c.args.first in
    let m = seen_in c.args.second in
    let count = c.greater-count.result in
    let one : length l.layers ≤ count = subst (λ n. n ≤ count) (sym (length-map c.args.first.layers.now settings_of)) (search rules) in
    let two : length m.layers ≤ count = subst (λ n. n ≤ count) (sym (length-map c.args.second.layers.now settings_of)) (search rules) in
    let keys : first_keys count l ++ first_keys count m ≡ all_paths l.layers ++ all_paths m.layers =
    ap₂ (λ (a b : List Settings). all_paths a ++ all_paths b) (take_all count l.layers one) (take_all count m.layers two) in
    IfOk-weaker c.differing.result (λ v. AreDiffering l m (first_keys count l ++ first_keys count m) (map string_bytes v.items))
    (λ v. AreDiffering l m (all_paths l.layers ++ all_paths m.layers) (map string_bytes v.items))
    (λ v e. record { test = e.test; tells = e.tells; are = e.are ∙ ap (λ ks. listing (filter e.test ks)) keys })
    c.differing.ensures
