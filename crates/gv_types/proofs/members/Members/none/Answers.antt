use Rattle.std.proofs.Common.{arith}
use Rattle.gv_types.proofs.Parts.{no_types}
use Rattle.gv_types.proofs.members.Members.none.Goals as goal

pub invariant_of-result : goal.invariant_of-result
invariant_of-result c = record { are_types = no_types.0; alone = λ h. absurd (omega arith); «open» = λ h. absurd (omega arith) }

pub returns : goal.returns
returns c = no_types.1
