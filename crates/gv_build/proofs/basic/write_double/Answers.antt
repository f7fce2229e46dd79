use Rattle.std.proofs.Common.{rules}
use Rattle.gv_build.proofs.Numbers.{eight_bytes}
use Rattle.gv_build.proofs.Outcomes.{wrote_same, over_same}
use Rattle.gv_build.proofs.basic.write_double.Goals as goal

pub returns-clause-bytes : goal.returns-clause-bytes
returns-clause-bytes c = wrote_same _ _ _ _ _ (eight_bytes c.args.bytes (search rules) (search rules)) c.push_bytes.ensures.bytes

pub returns-clause-fault : goal.returns-clause-fault
returns-clause-fault c = over_same _ _ _ _ (eight_bytes c.args.bytes (search rules) (search rules)) c.push_bytes.ensures.fault
