use Rattle.std.proofs.Common.{◌≡◌, ◌∙◌, List, ap, map, ℕ}
use Rattle.std.proofs.lemmas.Result.{on_ok_weaker}
use Rattle.dconf_model.specs.Layers.{Layers, all_paths}
use Rattle.dconf_model.specs.Walks.{keys_below}
use Rattle.dconf_path.specs.Paths.{directory_text}
use Rattle.dconf_layers.specs.Children.{seen_path}
use Rattle.dconf_layers.specs.LayerSettings.{seen_in, settings_of}
use Rattle.dconf_layers.specs.TextSets.{with_texts}
use Rattle.dconf_layers.specs.declared.seen.SeenKey.{SeenKey}
use Rattle.dconf_told.proofs.OwnLaws.{paths_found}
use Rattle.dconf_told.proofs.own.add_below.Goals as goal

pub returns : goal.returns
returns c =
    let seen = seen_in c.new.result in
    let directory = directory_text c.args.directory in
    let layers : seen.layers ≡ map settings_of c.args.layers.now = ap (λ (l : Layers). l.layers) c.new.ensures in
    let paths : map seen_path c.as_slice.result.now ≡ keys_below (all_paths (map settings_of c.args.layers.now)) directory =
    ap (λ (found : List SeenKey). map seen_path found) c.as_slice.ensures.value
    ∙ (paths_found seen c.in_ok-found.found.items (keys_below (all_paths seen.layers) directory) c.in_ok-found.ensures.seen ∙ ap (λ ls. keys_below (all_paths ls) directory) layers) in
    on_ok_weaker c.add_found.result (λ e. e ∙ ap (λ (ps : List (List ℕ)). with_texts ps c.args.keys.now) paths) c.add_found.ensures
