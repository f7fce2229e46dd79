use Rattle.dconf_verdicts.proofs.StandingLaws.{each_is_safe}
use Rattle.dconf_verdicts.proofs.each_file_is_safe.Goals as goal

pub returns : goal.returns
returns c = each_is_safe
