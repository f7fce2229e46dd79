use Rattle.gv_view.specs.Children.{children_left}
use Rattle.dconfdb_values.proofs.ListingLaws.{IsFilled}
use Rattle.dconfdb_values.proofs.listing.fill.Given as goal

abbrev pub invariant-loop-place : goal.invariant-loop-place
invariant-loop-place l = IsFilled l.origin (children_left l.fn.children) l.fn.room l.room l.place (children_left l.left)
