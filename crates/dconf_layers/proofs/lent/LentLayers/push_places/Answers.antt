use Rattle.std.proofs.Common.{◌∙◌, Some, subst, sym}
use Rattle.std.specs.List.{All}
use Rattle.std.proofs.lemmas.List.Elements.{All-pop, All-push}
use Rattle.dconf_model.specs.Layers.{all_paths}
use Rattle.dconf_model.specs.Walks.{names_in}
use Rattle.dconf_path.specs.Paths.{directory_text}
use Rattle.dconf_layers.specs.LayerSettings.{seen_in}
use Rattle.dconf_layers.specs.Children.{IsShown}
use Rattle.dconf_layers.proofs.Walks.{IsFirst, children_start, place_pushed}
use Rattle.dconf_layers.proofs.lent.LentLayers.push_places.Goals as goal

pub loop-child-init : goal.loop-child-init
loop-child-init c =
    let l = seen_in c.args.self in
    let d = directory_text c.args.directory in
    record {
      same = children_start d c.args.waiting.now.items c.in_ok-children.children.items (names_in (all_paths l.layers) d) c.in_ok-children.ensures.names;
      first = c.in_ok-children.ensures.places;
      shown = λ shown. shown;
    }

pub place_of_child-requires : goal.place_of_child-requires
place_of_child-requires c =
    (All-pop (IsFirst (seen_in c.args.self) (directory_text c.args.directory)) c.loop-child.children.items c.pop.new.self.items (Some c.in-Some.child) c.in-Some.ensures.items c.loop-child.invariant.first).1

pub loop-child-preserved : goal.loop-child-preserved
loop-child-preserved c =
    let l = seen_in c.args.self in
    let d = directory_text c.args.directory in
    let w = c.loop-child.waiting.items in
    let place = c.in_ok-place_of_child.field-0 in
    record {
      same = place_pushed d w c.push.new.self.items c.loop-child.children.items c.pop.new.self.items c.in-Some.child place c.in-Some.ensures.items c.in_ok-push.ensures.items c.in_ok-place_of_child.ensures.path
          ∙ c.loop-child.invariant.same;
      first = (All-pop (IsFirst l d) c.loop-child.children.items c.pop.new.self.items (Some c.in-Some.child) c.in-Some.ensures.items c.loop-child.invariant.first).0;
      shown = λ shown. subst (All (IsShown l)) (sym c.in_ok-push.ensures.items) (All-push (IsShown l) w place (c.loop-child.invariant.shown shown) c.in_ok-place_of_child.ensures.shown);
    }
