use Rattle.dconf_model.proofs.PrintedDumps.{printed_reads_as_dumped}
use Rattle.dconf_model.proofs.a_printed_dump_reads_back.Goals as goal

pub returns : goal.returns
returns c = printed_reads_as_dumped
