use Rattle.dconf_model.proofs.DumpLaws.{dump_reads_back}
use Rattle.dconf_model.proofs.DumpedPaths.{dump_has_each_setting}
use Rattle.dconf_model.proofs.DumpOrder.{dump_is_in_order}
use Rattle.dconf_model.proofs.a_dump_reads_back.Goals as goal

pub returns : goal.returns
returns c = record { again = dump_reads_back; same = dump_has_each_setting; order = dump_is_in_order }
