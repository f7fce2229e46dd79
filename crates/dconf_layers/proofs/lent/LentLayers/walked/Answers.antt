use Rattle.std.proofs.Common.{◌≡◌, List, [], Some, arith, rules, subst, sym}
use Rattle.std.specs.List.{All}
use Rattle.std.proofs.lemmas.List.Elements.{All-nil, All-pop}
use Rattle.dconf_model.specs.Layers.{all_paths}
use Rattle.dconf_model.specs.Walks.{keys_below}
use Rattle.dconf_path.specs.Paths.{directory_text}
use Rattle.dconf_layers.specs.declared.seen.SeenKey.{SeenKey}
use Rattle.dconf_layers.specs.LayerSettings.{seen_in}
use Rattle.dconf_layers.specs.Children.{IsShown}
use Rattle.dconf_layers.proofs.Walks.{layers_have_keys, next_work, step_found, walk_is_over, walk_starts}
use Rattle.dconf_layers.proofs.lent.LentLayers.walked.Goals as goal

pub loop-place-init : goal.loop-place-init
loop-place-init c =
    let l = seen_in c.args.self in
    let none = λ (keys : List SeenKey) (e : keys ≡ []). subst (All (IsShown l)) (sym e) (All-nil (IsShown l)) in
    record {
      found = walk_starts (all_paths l.layers) (layers_have_keys c.args.self.layers.now) (directory_text c.args.directory) c.new-keys.result.items c.new-waiting.result.items c.push_places.new.waiting.items
          c.new-keys.ensures.items c.new-waiting.ensures.items c.in_ok-push_places.ensures.places;
      keys_shown = none c.new-keys.result.items c.new-keys.ensures.items;
      waiting_shown = c.in_ok-push_places.ensures.shown (none c.new-waiting.result.items c.new-waiting.ensures.items);
    }

pub loop-place-smaller : goal.loop-place-smaller
loop-place-smaller c =
    let paths = all_paths (seen_in c.args.self).layers in
    omega (arith, next_work paths c.loop-place.waiting.items c.pop.new.self.items c.in-Some.place c.in-Some.ensures.items, c.in_ok-visit.ensures.less)

pub loop-place-preserved : goal.loop-place-preserved
loop-place-preserved c =
    let l = seen_in c.args.self in
    let paths = all_paths l.layers in
    let invariant = c.loop-place.invariant in
    let shown = All-pop (IsShown l) c.loop-place.waiting.items c.pop.new.self.items (Some c.in-Some.place) c.in-Some.ensures.items invariant.waiting_shown in
    record {
      found = step_found paths c.loop-place.keys.items c.visit.new.keys.items c.loop-place.waiting.items c.pop.new.self.items c.visit.new.waiting.items c.in-Some.place
          (keys_below paths (directory_text c.args.directory)) c.in-Some.ensures.items c.in_ok-visit.ensures.found invariant.found;
      keys_shown = c.in_ok-visit.ensures.keys_shown shown.1 invariant.keys_shown;
      waiting_shown = c.in_ok-visit.ensures.waiting_shown shown.0;
    }

pub returns-clause-found : goal.returns-clause-found
returns-clause-found c =
    let l = seen_in c.args.self in
    let d = directory_text c.args.directory in
    let none : c.loop-place.waiting.items ≡ [] = search rules in
    walk_is_over (all_paths l.layers) c.loop-place.keys.items c.loop-place.waiting.items (keys_below (all_paths l.layers) d) none c.loop-place.invariant.found

pub returns-clause-shown : goal.returns-clause-shown
returns-clause-shown c = c.loop-place.invariant.keys_shown
