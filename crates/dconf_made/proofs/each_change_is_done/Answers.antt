use Rattle.dconf_made.proofs.CourseLaws.{each_change_is_done}
use Rattle.dconf_made.proofs.each_change_is_done.Goals as goal

pub returns : goal.returns
returns c = each_change_is_done
