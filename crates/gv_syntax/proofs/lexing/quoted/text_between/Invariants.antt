use Rattle.std.proofs.Common.{◌-◌, false, length, IsCharBoundary, string_bytes}
use Rattle.gv_syntax.proofs.QuotedLaws.{SoFar}
use Rattle.gv_syntax.proofs.lexing.quoted.text_between.Given as goal

abbrev pub invariant-loop-string : goal.invariant-loop-string
invariant-loop-string l = record {
  cuts : IsCharBoundary l.text l.at;
  so_far : SoFar false l.text l.from l.at (string_bytes l.string);
}

abbrev pub decreases-loop-string : goal.decreases-loop-string
decreases-loop-string l = length l.text - l.at
