use Rattle.dconf_told.proofs.ChangedLaws.{same_texts}
use Rattle.dconf_told.proofs.changed.are_same_texts.Goals as goal

pub returns : goal.returns
returns c = same_texts c.args.one.now c.args.other.now c.eq.result c.eq.ensures
