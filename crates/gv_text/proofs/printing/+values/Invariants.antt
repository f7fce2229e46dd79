use Rattle.std.proofs.Common.{true, false, ◌+◌, ◌-◌, ◌*◌, string_bytes}
use Rattle.gv_model.specs.Tree.{children}
use Rattle.gv_model.specs.Parts.{part_trees}
use Rattle.gv_view.specs.Views.{value}
use Rattle.gv_view.specs.Children.{children_left}
use Rattle.gv_text.proofs.ChildTexts.{IsLeft}
use Rattle.gv_text.proofs.ChildCounts.{IsAlone}
use Rattle.gv_text.proofs.Levels.{AreLevels}
use Rattle.gv_text.proofs.Copies.{AreCopied}
use Rattle.gv_model.specs.Printed.{comma}
use Rattle.gv_text.proofs.printing.+values.Given as goal

-- A child has fewer levels left than its container. With as many left a value comes before its kind, then the brackets, then
-- the children. An element behind a comma comes before the value.

abbrev pub decreases-push_value : goal.decreases-push_value
decreases-push_value l = 5 * l.levels + 3

abbrev pub decreases-array::push_array : goal.decreases-array::push_array
decreases-array::push_array l = 5 * l.levels + 2

abbrev pub decreases-maybe::push_maybe : goal.decreases-maybe::push_maybe
decreases-maybe::push_maybe l = 5 * l.levels + 2

abbrev pub decreases-tuple::push_entry : goal.decreases-tuple::push_entry
decreases-tuple::push_entry l = 5 * l.levels + 2

abbrev pub decreases-tuple::push_tuple : goal.decreases-tuple::push_tuple
decreases-tuple::push_tuple l = 5 * l.levels + 2

abbrev pub decreases-children::push_between : goal.decreases-children::push_between
decreases-children::push_between l = 5 * l.levels + 1

abbrev pub decreases-children::push_children : goal.decreases-children::push_children
decreases-children::push_children l = 5 * l.levels

abbrev pub decreases-array::push_element : goal.decreases-array::push_element
decreases-array::push_element l = 5 * l.levels + 4

abbrev pub decreases-array::push_elements : goal.decreases-array::push_elements
decreases-array::push_elements l = 5 * l.levels

-- what is written so far, and the children that are left; those before have no more levels than there are
abbrev pub invariant-children::push_children-loop-child : goal.invariant-children::push_children-loop-child
invariant-children::push_children-loop-child l =
    IsLeft l.mark (children (value l.fn.view)) (part_trees (children_left l.children)) l.annotated false (string_bytes l.fn.to) (string_bytes l.to)
    × IsAlone l.alone (children (value l.fn.view)) (part_trees (children_left l.children))
    × AreLevels (value l.fn.view) (part_trees (children_left l.children)) l.fn.levels

-- the same of an array's elements, and where the text of one without bytes stands
abbrev pub invariant-array::push_elements-loop-child : goal.invariant-array::push_elements-loop-child
invariant-array::push_elements-loop-child l =
    IsLeft comma (children (value l.fn.view)) (part_trees (children_left l.children)) l.annotated true (string_bytes l.fn.to) (string_bytes l.to)
    × AreLevels (value l.fn.view) (part_trees (children_left l.children)) l.fn.levels
    × AreCopied (children_left l.children) l.noted (l.fn.levels - 1) (string_bytes l.to)
