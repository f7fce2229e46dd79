use Rattle.std.proofs.Common.{◌≡◌, ◌-◌, nat_le}
use Rattle.gv_model.specs.Tree.{depth, greatest_depth}
use Rattle.gv_model.specs.Parts.{part_trees}
use Rattle.gv_view.specs.Views.{value}
use Rattle.gv_view.specs.Children.{children_left}
use Rattle.gv_view.proofs.Alike.{AreAlike}
use Rattle.gv_view.proofs.depth.+fits.Given as goal

abbrev pub decreases-fits : goal.decreases-fits
decreases-fits l = l.levels

abbrev pub invariant-loop-child : goal.invariant-loop-child
invariant-loop-child l =
    (goal.iterator-loop-child).can_next l.child-iterator ×
    (goal.iterator-loop-child).is_finite l.child-iterator ×
    (nat_le (greatest_depth (part_trees (children_left l.child-iterator))) (l.fn.levels - 1) ≡ nat_le (depth (value l.fn.view)) l.fn.levels) ×
    AreAlike l.in_array l.element_fits (l.fn.levels - 1) (children_left l.child-iterator)
