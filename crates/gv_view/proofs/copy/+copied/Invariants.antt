use Rattle.std.proofs.Common.{◌≡◌, ◌≤◌, ◌<◌, ◌++◌, suc, max}
use Rattle.std.specs.Prelude.{map}
use Rattle.gv_model.specs.Tree.{depth, greatest_depth, children}
use Rattle.gv_model.specs.Parts.{part_trees}
use Rattle.gv_tree.specs.Nodes.{trees_of as tree_list}
use Rattle.gv_view.specs.Views.{value}
use Rattle.gv_view.specs.Children.{children_left}
use Rattle.gv_view.proofs.PartValues.{part_value}
use Rattle.gv_view.proofs.copy.+copied.Given as goal

abbrev pub decreases-copied : goal.decreases-copied
decreases-copied l = l.levels

abbrev pub invariant-loop-child : goal.invariant-loop-child
invariant-loop-child l =
    (goal.iterator-loop-child).can_next l.child-iterator ×
    (goal.iterator-loop-child).is_finite l.child-iterator ×
    (greatest_depth (part_trees (children_left l.child-iterator)) < depth (value l.fn.view)) ×
    (depth (value l.fn.view) ≤ max l.fn.levels (suc (greatest_depth (part_trees (children_left l.child-iterator))))) ×
    (tree_list (l.parts.items ++ map part_value (children_left l.child-iterator)) ≡ children (value l.fn.view))
