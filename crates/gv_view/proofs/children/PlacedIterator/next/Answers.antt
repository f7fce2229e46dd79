use Rattle.std.proofs.Common.{length}
use Rattle.gv_layout.specs.Places.{child_of, places_left}
use Rattle.gv_model.specs.Laws.{LiesWithin}
use Rattle.gv_view.proofs.Lists.{All-first, All-left}
use Rattle.gv_view.proofs.children.PlacedIterator.next.Goals as goal

pub invariant_of-self : goal.invariant_of-self
invariant_of-self c =
    let p = c.args.self.now in
    record { within = All-left child_of (LiesWithin (length p.bytes.now)) (places_left p.places) (places_left c.next.new.self) c.next.result c.next.ensures.steps p.within }

pub view_at-requires : goal.view_at-requires
view_at-requires c =
    let p = c.args.self.now in
    All-first (LiesWithin (length p.bytes.now)) (places_left p.places) (places_left c.next.new.self) (child_of c.in_ok-place.place) c.in_ok-place.ensures.steps p.within
