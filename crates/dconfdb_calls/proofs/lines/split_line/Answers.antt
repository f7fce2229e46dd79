use Rattle.keyfile_core.proofs.LineParts.{no_feed}
use Rattle.dconfdb_calls.proofs.LineLaws.{at_feed}
use Rattle.dconfdb_calls.proofs.lines.split_line.Goals as goal

pub returns-in-Some-clause-parts : goal.returns-in-Some-clause-parts
returns-in-Some-clause-parts c = at_feed c.args.text.now c.in-Some.end c.in-Some.ensures.0 c.in-Some.ensures.1

pub returns-in-None-clause-parts : goal.returns-in-None-clause-parts
returns-in-None-clause-parts c = no_feed c.args.text.now c.in-None.ensures
