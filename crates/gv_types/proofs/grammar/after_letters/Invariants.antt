use Rattle.std.proofs.Common.{◌≡◌, length}
use Rattle.gv_types.specs.TypePrefix.{after_letters}
use Rattle.gv_types.proofs.grammar.after_letters.Given as goal

abbrev pub invariant-loop-letter : goal.invariant-loop-letter
invariant-loop-letter l = after_letters l.fn.text ≡ after_letters l.rest

abbrev pub decreases-loop-letter : goal.decreases-loop-letter
decreases-loop-letter l = length l.rest
