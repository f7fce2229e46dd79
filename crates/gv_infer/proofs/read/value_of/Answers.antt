use Rattle.gv_infer.proofs.ReadLaws.{read_typing_fault}
use Rattle.gv_infer.proofs.read.value_of.Goals as goal

pub returns-in-Err-clause-fault : goal.returns-in-Err-clause-fault
returns-in-Err-clause-fault c = λ text tree. read_typing_fault text c.args.root.now c.in-Err.fault c.into_fault.result tree c.in-Err.ensures.fault c.into_fault.ensures
