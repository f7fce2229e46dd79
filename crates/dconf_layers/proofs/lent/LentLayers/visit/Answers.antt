use Rattle.std.proofs.Common.{◌≡◌, ◌∙◌, ◌++◌, List, ℕ, false, reverse, subst, sym}
use Rattle.std.specs.Prelude.{IsTrue}
use Rattle.std.specs.List.{All}
use Rattle.std.proofs.lemmas.List.Elements.{All-push}
use Rattle.std.proofs.lemmas.Result.{on_ok_weaker}
use Rattle.dconf_model.specs.Layers.{all_paths}
use Rattle.dconf_model.specs.Paths.{is_directory_path}
use Rattle.dconf_model.specs.Walks.{places_in}
use Rattle.dconf_layers.specs.LayerSettings.{seen_in}
use Rattle.dconf_layers.specs.Children.{IsShown, seen_path}
use Rattle.dconf_layers.proofs.Walks.{directory_found, directory_less, key_found, layers_have_keys, texts}
use Rattle.dconf_layers.proofs.lent.LentLayers.visit.Goals as goal

pub returns-in-Some-clause-found : goal.returns-in-Some-clause-found
returns-in-Some-clause-found c =
    let paths = all_paths (seen_in c.args.self).layers in
    let new = c.push_places.new.waiting.items in
    let w = c.args.waiting.now.items in
    let is = subst (λ (t : List ℕ). IsTrue (is_directory_path t)) c.as_str.ensures.value c.in-Some.ensures.some.1 in
    on_ok_weaker c.push_places.result (λ e. directory_found paths (layers_have_keys c.args.self.layers.now) c.args.keys.now.items new w (seen_path c.args.place) is
    (subst (λ (t : List ℕ). texts new ≡ texts w ++ reverse (places_in paths t)) (c.in-Some.ensures.some.0 ∙ c.as_str.ensures.value) e)) c.push_places.ensures.places

pub returns-in-Some-clause-less : goal.returns-in-Some-clause-less
returns-in-Some-clause-less c =
    let paths = all_paths (seen_in c.args.self).layers in
    let new = c.push_places.new.waiting.items in
    let w = c.args.waiting.now.items in
    let is = subst (λ (t : List ℕ). IsTrue (is_directory_path t)) c.as_str.ensures.value c.in-Some.ensures.some.1 in
    on_ok_weaker c.push_places.result (λ e. directory_less paths (layers_have_keys c.args.self.layers.now) new w (seen_path c.args.place) is
    (subst (λ (t : List ℕ). texts new ≡ texts w ++ reverse (places_in paths t)) (c.in-Some.ensures.some.0 ∙ c.as_str.ensures.value) e)) c.push_places.ensures.places

pub returns-in_ok-push-in-None-clause-found : goal.returns-in_ok-push-in-None-clause-found
returns-in_ok-push-in-None-clause-found c =
    let other : is_directory_path (seen_path c.args.place) ≡ false = subst (λ (t : List ℕ). is_directory_path t ≡ false) c.as_str.ensures.value c.in-None.ensures.none in
    key_found (all_paths (seen_in c.args.self).layers) c.args.keys.now.items c.push.new.self.items c.args.waiting.now.items c.args.place other c.in_ok-push-in-None.ensures.items

pub returns-in_ok-push-in-None-clause-keys_shown : goal.returns-in_ok-push-in-None-clause-keys_shown
returns-in_ok-push-in-None-clause-keys_shown c shown keys =
    let l = seen_in c.args.self in
    subst (All (IsShown l)) (sym c.in_ok-push-in-None.ensures.items) (All-push (IsShown l) c.args.keys.now.items c.args.place keys shown)
