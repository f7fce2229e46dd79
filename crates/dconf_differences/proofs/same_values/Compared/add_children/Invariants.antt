use Rattle.std.proofs.Common.{◌<◌, ◌+◌}
use Rattle.std.specs.Prelude.{◌↔◌}
use Rattle.gv_model.specs.Parts.{part_trees}
use Rattle.gv_model.specs.Tree.{nodes, nodes_of}
use Rattle.gv_view.specs.Children.{children_left}
use Rattle.gv_view.specs.Views.{value}
use Rattle.dconf_differences.specs.Differing.{AreSame, IsSame, work}
use Rattle.dconf_differences.proofs.SameValueLaws.{AreLeft}
use Rattle.dconf_differences.proofs.same_values.Compared.add_children.Given as goal

-- they are the same where the children that are left are, and what was added before them
abbrev pub invariant-loop-child : goal.invariant-loop-child
invariant-loop-child l =
    (AreLeft (children_left l.child-iterator) (children_left l.others) l.left.items ↔ (IsSame l.self × AreSame l.initial.left.items)) ×
    (work l.left.items + nodes_of (part_trees (children_left l.child-iterator)) < work l.initial.left.items + nodes (value l.self.first))
