use Rattle.dconf_rounds.proofs.TellLaws.{what_is_not_handed_out_is_kept}
use Rattle.dconf_rounds.proofs.what_is_not_handed_out_is_kept.Goals as goal

pub returns : goal.returns
returns c = what_is_not_handed_out_is_kept
