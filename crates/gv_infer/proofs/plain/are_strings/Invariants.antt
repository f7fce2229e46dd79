use Rattle.std.proofs.Common.{◌≡◌, ◌⊎◌, ◌≤◌, length, drop}
use Rattle.gv_model.specs.Patterns.{all_common}
use Rattle.gv_model.specs.Patterns.Pattern.{loose}
use Rattle.gv_model.specs.Patterns.Bare.{basics}
use Rattle.gv_model.specs.Patterns.BasicSet.{texts}
use Rattle.gv_syntax.specs.SyntaxNodes.{nodes_of}
use Rattle.gv_infer.proofs.plain.are_strings.Given as goal

abbrev pub invariant-loop-len : goal.invariant-loop-len
invariant-loop-len l = (l.len ≤ length l.fn.nodes)
    × ((l.len ≡ length l.fn.nodes) ⊎ (all_common (nodes_of (drop l.len l.fn.nodes)) ≡ loose (basics texts)))

abbrev pub decreases-loop-len : goal.decreases-loop-len
decreases-loop-len l = l.len
