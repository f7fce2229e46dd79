use Rattle.gv_infer.proofs.PrintedReading.{printed_read}
use Rattle.gv_infer.proofs.printed.printed_is_read.Goals as goal

pub returns : goal.returns
returns c = printed_read
