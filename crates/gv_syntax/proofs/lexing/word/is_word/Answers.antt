use Rattle.std.proofs.Common.{rules, ◌∙◌}
use Rattle.gv_syntax.proofs.WordLaws.{same_text_is, same_text_swaps}
use Rattle.gv_syntax.proofs.lexing.word.is_word.Goals as goal

pub returns-clause-same : goal.returns-clause-same
returns-clause-same c = search (rules, same_text_is)

pub returns-clause-swapped : goal.returns-clause-swapped
returns-clause-swapped c = returns-clause-same c ∙ same_text_swaps _ c.args.text.now
