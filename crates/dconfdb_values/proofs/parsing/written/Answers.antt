use Rattle.std.proofs.Common.{ap}
use Rattle.gv_model.specs.Ty.{spelling}
use Rattle.dconfdb_values.proofs.WrittenLaws.{all_written}
use Rattle.dconfdb_values.proofs.parsing.written.Goals as goal

pub returns-in-Ok-clause-written : goal.returns-in-Ok-clause-written
returns-in-Ok-clause-written c =
    all_written c.with_type.result c.args.tree.now c.in-Ok.bytes.items _ c.type_text-of.ensures.whole c.in-Ok.ensures.bytes (ap spelling c.type_text-of.ensures.text)
    c.with_type.ensures.block c.with_type.ensures.size
