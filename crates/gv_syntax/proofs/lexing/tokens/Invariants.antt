use Rattle.std.proofs.Common.{◌≤◌, ◌-◌, length, map}
use Rattle.gv_model.proofs.TokenLoops.{TokensSoFar}
use Rattle.gv_syntax.specs.ModelTokens.{placed_of}
use Rattle.gv_syntax.proofs.lexing.tokens.Given as goal

abbrev pub invariant-loop-at : goal.invariant-loop-at
invariant-loop-at l = record {
  within : l.at ≤ length l.text;
  so_far : TokensSoFar l.text l.at (map placed_of l.found.items);
}

abbrev pub decreases-loop-at : goal.decreases-loop-at
decreases-loop-at l = length l.text - l.at
