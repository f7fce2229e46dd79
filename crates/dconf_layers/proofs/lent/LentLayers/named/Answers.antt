use Rattle.std.proofs.Common.{◌≡◌, ◌∷◌, subst, sym}
use Rattle.std.specs.List.{All}
use Rattle.std.specs.Vec.Iter.{into_iter_items}
use Rattle.std.proofs.lemmas.List.Elements.{All-push}
use Rattle.dconf_layers.specs.LayerSettings.{seen_in}
use Rattle.dconf_layers.specs.Children.{IsShown}
use Rattle.dconf_layers.proofs.Walks.{named_next}
use Rattle.dconf_layers.proofs.lent.LentLayers.named.Goals as goal

pub loop-path-preserved : goal.loop-path-preserved
loop-path-preserved c =
    let l = seen_in c.args.self in
    let keys = c.loop-path.keys.items in
    let key = c.seen_at.result in
    let now = into_iter_items c.loop-path.path-iterator in
    let rest = into_iter_items c.next.new.self in
    let cut : now ≡ c.in-Some.path ∷ rest = c.in-Some.ensures.steps.0 in
    record {
      found = named_next keys c.push.new.self.items key c.in-Some.path now rest _ c.in_ok-push.ensures.items c.seen_at.ensures.path cut c.loop-path.invariant.found;
      shown = subst (All (IsShown l)) (sym c.in_ok-push.ensures.items) (All-push (IsShown l) keys key c.loop-path.invariant.shown c.seen_at.ensures.shown);
    }
