use Rattle.gvdb_format.specs.Tables.{region}
use Rattle.gvdb_check.proofs.RuleOrder.{sound_if_ok}
use Rattle.gvdb_check.proofs.rules.check_in_order.Goals as goal

pub returns-clause-sound : goal.returns-clause-sound
returns-clause-sound c = sound_if_ok (region c.args.table) c.each_keeps.result c.each_keeps.ensures.kept

pub returns-clause-fault : goal.returns-clause-fault
returns-clause-fault c = c.each_keeps.ensures.fault
