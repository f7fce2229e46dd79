use Rattle.std.proofs.Common.{◌≡◌, map, subst}
use Rattle.std.specs.Prelude.{IfSome, IsTrue}
use Rattle.std.specs.List.{All}
use Rattle.std.proofs.lemmas.Result.{IfOk-weaker}
use Rattle.dconf_model.specs.Layers.{all_paths}
use Rattle.dconf_model.specs.Paths.{is_key_path}
use Rattle.dconf_model.specs.Walks.{keys_below}
use Rattle.dconf_path.specs.Paths.{directory_text}
use Rattle.dconf_layers.specs.LayerSettings.{seen_in}
use Rattle.dconf_layers.specs.Children.{IsShown, seen_path, seen_row, shown_at}
use Rattle.dconf_layers.proofs.Walks.{all_shown, found_are_keys, layers_have_keys, ok_both}
use Rattle.dconf_layers.proofs.lent.LentLayers.keys_below.Goals as goal

pub returns-in-Some-clause-seen : goal.returns-in-Some-clause-seen
returns-in-Some-clause-seen c =
    let l = seen_in c.args.self in
    let d = directory_text c.args.directory in
    let found : map seen_path c.in-Some.keys.items ≡ keys_below (all_paths l.layers) d =
    subst (λ o. IfSome o (λ keys. map seen_path keys.items ≡ keys_below (all_paths l.layers) d)) c.in-Some.is c.in_ok-keys.ensures.found in
    let shown : All (IsShown l) c.in-Some.keys.items = subst (λ o. IfSome o (λ keys. All (IsShown l) keys.items)) c.in-Some.is c.in_ok-keys.ensures.shown in
    all_shown l (layers_have_keys c.args.self.layers.now) d c.in-Some.keys.items found shown

pub returns-in-Some-clause-paths : goal.returns-in-Some-clause-paths
returns-in-Some-clause-paths c =
    let l = seen_in c.args.self in
    let d = directory_text c.args.directory in
    let found : map seen_path c.in-Some.keys.items ≡ keys_below (all_paths l.layers) d =
    subst (λ o. IfSome o (λ keys. map seen_path keys.items ≡ keys_below (all_paths l.layers) d)) c.in-Some.is c.in_ok-keys.ensures.found in
    found_are_keys l (layers_have_keys c.args.self.layers.now) d c.in-Some.keys.items found

pub returns-in-None-clause-seen : goal.returns-in-None-clause-seen
returns-in-None-clause-seen c =
    let l = seen_in c.args.self in
    let d = directory_text c.args.directory in
    ok_both c.named.result (λ keys. map seen_path keys.items ≡ keys_below (all_paths l.layers) d) (λ keys. All (IsShown l) keys.items)
    (λ keys. map seen_row keys.items ≡ map (shown_at l) (keys_below (all_paths l.layers) d))
    (λ keys found shown. all_shown l (layers_have_keys c.args.self.layers.now) d keys.items found shown) c.named.ensures.found c.named.ensures.shown

pub returns-in-None-clause-paths : goal.returns-in-None-clause-paths
returns-in-None-clause-paths c =
    let l = seen_in c.args.self in
    let d = directory_text c.args.directory in
    IfOk-weaker c.named.result (λ keys. map seen_path keys.items ≡ keys_below (all_paths l.layers) d) (λ keys. All (λ key. IsTrue (is_key_path (seen_path key))) keys.items)
    (λ keys found. found_are_keys l (layers_have_keys c.args.self.layers.now) d keys.items found) c.named.ensures.found
