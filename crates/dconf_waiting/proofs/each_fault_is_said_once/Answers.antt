use Rattle.dconf_waiting.proofs.FaultLaws.{each_fault_is_said_once}
use Rattle.dconf_waiting.proofs.each_fault_is_said_once.Goals as goal

pub returns : goal.returns
returns c = each_fault_is_said_once
