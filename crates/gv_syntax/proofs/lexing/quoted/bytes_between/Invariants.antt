use Rattle.std.proofs.Common.{◌-◌, ◌≤◌, true, length}
use Rattle.gv_syntax.proofs.QuotedLaws.{SoFar}
use Rattle.gv_syntax.proofs.lexing.quoted.bytes_between.Given as goal

abbrev pub invariant-loop-at : goal.invariant-loop-at
invariant-loop-at l = record {
  within : l.at ≤ length l.text;
  so_far : SoFar true l.text l.from l.at l.bytes.items;
}

abbrev pub decreases-loop-at : goal.decreases-loop-at
decreases-loop-at l = length l.text - l.at
