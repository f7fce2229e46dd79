use Rattle.std.proofs.Common.{◌≡◌, length}
use Rattle.gv_model.specs.Texts.{are_types}
use Rattle.gv_model.specs.TypeText.{seen}
use Rattle.gv_types.proofs.signature.are_types.Given as goal

abbrev pub invariant-loop-rest : goal.invariant-loop-rest
invariant-loop-rest l = are_types (seen l.text) ≡ are_types (seen l.rest)

abbrev pub decreases-loop-rest : goal.decreases-loop-rest
decreases-loop-rest l = length l.rest
