use Rattle.std.proofs.Common.{rules, arith}
use Rattle.gv_build.proofs.buffer.push_bytes.Goals as goal

pub returns-then-bytes-len-clause-fault : goal.returns-then-bytes-len-clause-fault
returns-then-bytes-len-clause-fault c = omega arith

pub returns-clause-fits : goal.returns-clause-fits
returns-clause-fits c = search rules
