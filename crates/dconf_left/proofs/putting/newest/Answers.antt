use Rattle.dconf_left.proofs.RecordLaws.{newest_joined}
use Rattle.dconf_left.proofs.putting.newest.Goals as goal

pub returns : goal.returns
returns c = newest_joined c.args.most c.min-count.result c.args.left.now c.split_at.result.0.now c.min-count.ensures c.split_at.ensures.front
