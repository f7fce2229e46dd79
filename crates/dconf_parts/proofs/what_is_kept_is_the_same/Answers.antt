use Rattle.dconf_parts.proofs.PartLaws.{what_is_kept_is_the_same}
use Rattle.dconf_parts.proofs.what_is_kept_is_the_same.Goals as goal

pub returns : goal.returns
returns c = what_is_kept_is_the_same
