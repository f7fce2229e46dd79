use Rattle.dconf_verdicts.proofs.VerdictLaws.{each_is_one}
use Rattle.dconf_verdicts.proofs.each_fault_is_one.Goals as goal

pub returns : goal.returns
returns c = each_is_one
