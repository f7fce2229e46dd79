use Rattle.std.proofs.Common.{sym, ◌∙◌}
use Rattle.gv_syntax.proofs.NumeralLaws.{none_of_empty, none_of_rest}
use Rattle.gv_syntax.proofs.lexing.numeral.magnitude_of.Goals as goal
use Rattle.gv_syntax.proofs.lexing.numeral.magnitude_of.Goals.{then-is_empty-via-then-is_empty, then-is_empty-via-else-is_empty+then-prefix_len-digits}

pub returns-then-is_empty : goal.returns-then-is_empty
returns-then-is_empty c = elim c.then-is_empty.branch [
  | then-is_empty-via-then-is_empty w ↦ none_of_empty c.args.base c.args.digits.now (sym c.is_empty.ensures ∙ w.if-is_empty.true)
  | then-is_empty-via-else-is_empty+then-prefix_len-digits w ↦ none_of_rest c.args.base c.args.digits.now w.prefix_len.result w.prefix_len.ensures.len w.if-prefix_len-digits.true
]
