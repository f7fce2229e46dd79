use Rattle.std.proofs.Common.{rules, true}
use Rattle.gv_syntax.proofs.QuotedLaws.{at_end}
use Rattle.gv_syntax.proofs.lexing.quoted.bytes_between.Goals as goal

pub returns-clause-found : goal.returns-clause-found
returns-clause-found c = search (rules, at_end true c.args.text.now c.args.from c.loop-at.at c.loop-at.bytes.items c.loop-at.invariant.so_far c.loop-at-test.false)
