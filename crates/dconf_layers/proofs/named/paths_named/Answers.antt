use Rattle.std.proofs.Common.{◌≡◌, ◌∙◌, ℕ, List, ap, map}
use Rattle.std.specs.Prelude.{filter, string_bytes}
use Rattle.std.specs.FinMap.{empty, keys}
use Rattle.std.proofs.lemmas.Result.{IfOk-weaker}
use Rattle.dconf_model.specs.Layers.{all_paths}
use Rattle.dconf_model.specs.Locks.{is_below}
use Rattle.dconf_model.specs.Walks.{keys_below}
use Rattle.dconf_path.specs.Paths.{directory_text}
use Rattle.dconf_layers.specs.LayerSettings.{settings_of}
use Rattle.dconf_layers.specs.TextSets.{TextSet, with_texts}
use Rattle.dconf_layers.proofs.TextSetLaws.{keys_are_listed}
use Rattle.dconf_layers.proofs.named.paths_named.Goals as goal

pub returns : goal.returns
returns c =
    let d = directory_text c.args.directory in
    let asked = filter (λ (path : List ℕ). is_below path d) (all_paths (map settings_of c.args.layers.now)) in
    let all : c.add_layers.new.paths ≡ with_texts asked empty = c.in_ok-add_layers.ensures ∙ ap (with_texts asked) c.new-paths.ensures in
    IfOk-weaker c.list.result (λ v. map string_bytes v.items ≡ keys c.add_layers.new.paths) (λ v. map string_bytes v.items ≡ keys_below (all_paths (map settings_of c.args.layers.now)) d)
    (λ v e. e ∙ (ap (λ (s : TextSet). keys s) all ∙ keys_are_listed asked))
    c.list.ensures
