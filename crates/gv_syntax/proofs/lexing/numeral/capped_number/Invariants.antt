use Rattle.std.proofs.Common.{◌≡◌, ◌≤◌, ◌^◌, min, drop}
use Rattle.gv_model.specs.Numerals.{number_after}
use Rattle.gv_syntax.proofs.lexing.numeral.capped_number.Given as goal

abbrev pub invariant-loop-digit : goal.invariant-loop-digit
invariant-loop-digit l = record {
  small : l.number ≤ 2 ^ 64;
  same : min (number_after l.base 0 l.digits) (2 ^ 64) ≡ min (number_after l.base l.number (drop l.digit-index l.digits)) (2 ^ 64);
}
