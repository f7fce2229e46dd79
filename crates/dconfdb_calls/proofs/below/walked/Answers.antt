use Rattle.std.proofs.Common.{◌≡◌, ◌∙◌, ℕ, List, true, ap, map, rules}
use Rattle.std.proofs.lemmas.Result.{IfOk-weaker}
use Rattle.dconf_model.specs.Layers.{Layers, all_paths}
use Rattle.dconf_model.specs.Walks.{keys_below}
use Rattle.dconf_path.specs.Paths.{directory_text}
use Rattle.dconf_layers.specs.Children.{seen_path}
use Rattle.dconf_layers.specs.LayerSettings.{seen_in}
use Rattle.dconfdb_calls.specs.Listed.{ended}
use Rattle.dconfdb_calls.specs.Seen.{layers_of}
use Rattle.dconfdb_calls.proofs.BelowLaws.{paths_seen}
use Rattle.dconfdb_calls.proofs.below.walked.Goals as goal

pub returns : goal.returns
returns c =
    let d = directory_text c.args.directory in
    let below : Layers → List (List ℕ) = λ l. keys_below (all_paths l.layers) d in
    let seen : seen_in c.new.result ≡ layers_of c.args.layers.now true = search rules in
    let found : map seen_path c.in_ok-keys.keys.items ≡ below (seen_in c.new.result) = paths_seen (seen_in c.new.result) c.in_ok-keys.keys.items _ c.in_ok-keys.ensures.seen in
    IfOk-weaker c.paths_of.result (λ v. v.items ≡ ended (map seen_path c.as_slice.result.now)) (λ v. v.items ≡ ended (below (layers_of c.args.layers.now true)))
    (λ v e. e ∙ ap ended (ap (map seen_path) c.as_slice.ensures.value ∙ (found ∙ ap below seen)))
    c.paths_of.ensures
