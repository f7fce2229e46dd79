use Rattle.std.proofs.Common.{◌≡◌, ◌++◌, true, false, string_bytes}
use Rattle.gv_model.specs.Tree.{depth}
use Rattle.gv_model.specs.Printed.{ends_in_nothing, text_of}
use Rattle.gv_view.specs.Views.{value}
use Rattle.gv_text.proofs.printing.maybe.push_nothing.Given as goal

-- the text of the level that was reached is still to come
abbrev pub invariant-loop-child : goal.invariant-loop-child
invariant-loop-child l =
    (ends_in_nothing (value l.level) ≡ true)
    × (string_bytes l.to ++ text_of (value l.level) false false ≡ string_bytes l.initial.to ++ text_of (value l.view) false false)

abbrev pub decreases-loop-child : goal.decreases-loop-child
decreases-loop-child l = depth (value l.level)
