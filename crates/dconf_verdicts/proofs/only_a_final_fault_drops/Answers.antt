use Rattle.dconf_verdicts.proofs.VerdictLaws.{only_final_drops}
use Rattle.dconf_verdicts.proofs.only_a_final_fault_drops.Goals as goal

pub returns : goal.returns
returns c = only_final_drops
