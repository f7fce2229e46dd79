use Rattle.dconf_times.proofs.RoomLaws.{none_is_forgotten}
use Rattle.dconf_times.proofs.laws.none_is_forgotten.Goals as goal

pub returns : goal.returns
returns c = none_is_forgotten
