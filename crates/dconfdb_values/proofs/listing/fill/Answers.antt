use Rattle.std.proofs.Common.{refl, arith}
use Rattle.gv_view.specs.Children.{children_left}
use Rattle.gv_view.specs.Views.{shown}
use Rattle.dconfdb_values.proofs.ListingLaws.{filled_all, filled_next, filled_up}
use Rattle.dconfdb_values.proofs.listing.fill.Goals as goal

pub loop-place-init : goal.loop-place-init
loop-place-init c = record { put = refl; rest = refl; left_is = refl }

pub returns-in-None : goal.returns-in-None
returns-in-None c =
    filled_all c.args.origin (children_left c.args.children) c.args.room.now c.loop-place.room c.loop-place.place (children_left c.loop-place.left)
    c.loop-place.invariant c.in-None.ensures.steps.0 (omega (arith, c.loop-place-test.true, c.loop-place.auto.room)) c.loop-place.auto.room

pub loop-place-preserved : goal.loop-place-preserved
loop-place-preserved c =
    filled_next c.args.origin (children_left c.args.children) c.args.room.now c.loop-place.room c.loop-place.place (children_left c.loop-place.left)
    (children_left c.next.new.self) (shown c.in-Some.child) c.child_of.result c.loop-place.invariant c.in-Some.ensures.steps c.child_of.ensures
    (omega (arith, c.loop-place-test.true, c.loop-place.auto.room))

pub returns : goal.returns
returns c =
    filled_up c.args.origin (children_left c.args.children) c.args.room.now c.loop-place.room c.loop-place.place (children_left c.loop-place.left)
    c.loop-place.invariant (omega (arith, c.loop-place-test.false, c.loop-place.auto.place-end)) c.loop-place.auto.room
