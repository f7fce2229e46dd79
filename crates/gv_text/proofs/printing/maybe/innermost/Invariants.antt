use Rattle.std.proofs.Common.{◌≡◌, ◌+◌, ◌≤◌, ◌<◌, ◌⊎◌}
use Rattle.gv_model.specs.Tree.{depth}
use Rattle.gv_types.specs.Classes.{class_of}
use Rattle.gv_types.specs.declared.class.Class.TheVariants.{Maybe}
use Rattle.gv_view.specs.Views.{value, view_ty}
use Rattle.gv_text.proofs.Maybes.{IsInside}
use Rattle.gv_text.proofs.printing.maybe.innermost.Given as goal

-- it is inside, with as many levels left as it is less deep, and that is one at least unless it is the first maybe
abbrev pub invariant-loop-inner : goal.invariant-loop-inner
invariant-loop-inner l =
    IsInside (value l.fn.view) (value l.inner)
    × (0 < l.left)
    × (l.left + depth (value l.fn.view) ≡ l.fn.levels + depth (value l.inner))
    × (l.left ≤ l.fn.levels)
    × ((class_of (view_ty l.inner) ≡ Maybe) ⊎ (l.left < l.fn.levels))

abbrev pub decreases-loop-inner : goal.decreases-loop-inner
decreases-loop-inner l = depth (value l.inner)
