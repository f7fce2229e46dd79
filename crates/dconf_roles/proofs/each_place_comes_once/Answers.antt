use Rattle.dconf_roles.proofs.PlaceLaws.{each_place_comes_once}
use Rattle.dconf_roles.proofs.each_place_comes_once.Goals as goal

pub returns : goal.returns
returns c = each_place_comes_once
