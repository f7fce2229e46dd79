use Rattle.gv_model.proofs.PrintedReadBack.{reads_back}
use Rattle.gv_model.proofs.text.printed_reads_back.Goals as goal

pub returns : goal.returns
returns c = reads_back
