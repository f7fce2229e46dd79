use Rattle.std.specs.Prelude.{◌≡◌, ◌↔◌}
use Rattle.gv_view.specs.Views.{value}
use Rattle.dconf_differences.specs.Differing.{AreSame, work}
use Rattle.dconf_differences.proofs.same_values.show_same.Given as goal

-- the two are the same where those that are left are
abbrev pub invariant-loop-pair : goal.invariant-loop-pair
invariant-loop-pair l = AreSame l.left.items ↔ (value l.fn.first ≡ value l.fn.second)

abbrev pub decreases-loop-pair : goal.decreases-loop-pair
decreases-loop-pair l = work l.left.items
