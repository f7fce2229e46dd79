use Rattle.dconf_times.proofs.TurnLaws.{latest_stands}
use Rattle.dconf_times.proofs.laws.the_latest_stands.Goals as goal

pub returns : goal.returns
returns c = latest_stands
