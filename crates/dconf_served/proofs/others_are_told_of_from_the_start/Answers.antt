use Rattle.dconf_served.proofs.BeginsLaws.{others_are_told_of_from_the_start}
use Rattle.dconf_served.proofs.others_are_told_of_from_the_start.Goals as goal

pub returns : goal.returns
returns c = others_are_told_of_from_the_start
