use Rattle.keyfile_lines.proofs.SplitLines.{at_feed, no_feed}
use Rattle.keyfile_lines.proofs.lines.split_line.Goals as goal

pub returns-in-Some-clause-lines : goal.returns-in-Some-clause-lines
returns-in-Some-clause-lines c = at_feed c.args.text.now c.in-Some.end c.in-Some.ensures.0 c.in-Some.ensures.1

pub returns-in-None-clause-lines : goal.returns-in-None-clause-lines
returns-in-None-clause-lines c = no_feed c.args.text.now c.requires c.in-None.ensures
