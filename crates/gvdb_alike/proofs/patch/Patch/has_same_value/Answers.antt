use Rattle.gvdb_read.specs.Tables.{region}
use Rattle.gvdb_alike.proofs.SameOutside.{value_same}
use Rattle.gvdb_alike.proofs.patch.Patch.has_same_value.Goals as goal

pub returns : goal.returns
returns c so =
    value_same (region c.args.self.table) (region c.args.self.other) c.args.self.span.first c.args.self.span.last c.args.i c.in-Some.item c.in-Some.ensures
    (c.is_outside.ensures so)
