use Rattle.dconf_texts.proofs.RefusedLaws.{the_first_fault_is_told}
use Rattle.dconf_texts.proofs.refusals.the_first_fault_is_told.Goals as goal

pub returns : goal.returns
returns c = the_first_fault_is_told
