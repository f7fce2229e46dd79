use Rattle.dconf_times.proofs.PutLaws.{left_there, put_there}
use Rattle.dconf_times.proofs.notes.put_later.Goals as goal

pub returns-then-kept-at-clause-put : goal.returns-then-kept-at-clause-put
returns-then-kept-at-clause-put c = put_there c.args.kept.now c.args.at c.args.time _ c.requires c.if-kept-at.true

pub returns-else-kept-at-clause-put : goal.returns-else-kept-at-clause-put
returns-else-kept-at-clause-put c = left_there c.args.kept.now c.args.at c.args.time _ c.requires c.if-kept-at.false
