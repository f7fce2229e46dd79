use Rattle.gv_model.proofs.OnePrefix.{one_end, fault_exactly}
use Rattle.gv_model.proofs.text.fault_ends_prefix.Goals as goal

pub returns : goal.returns
returns c = record { prefix = fault_exactly; alone = one_end }
