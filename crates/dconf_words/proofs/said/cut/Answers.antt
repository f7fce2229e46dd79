use Rattle.std.proofs.Common.{rules}
use Rattle.dconf_words.proofs.said.cut.Goals as goal

pub returns-in-Some-clause-before : goal.returns-in-Some-clause-before
returns-in-Some-clause-before c = search rules

pub returns-in-Some-clause-behind : goal.returns-in-Some-clause-behind
returns-in-Some-clause-behind c = search rules
