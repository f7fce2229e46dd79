use Rattle.std.proofs.Common.{◌≡◌, rules}
use Rattle.dconf_model.specs.Table.{list_kind}
use Rattle.gvdb_read.specs.Tables.{region}
use Rattle.gvdb_alike.proofs.SameOutside.{list_kept}
use Rattle.gvdb_alike.proofs.patch.Patch.has_same_list.Goals as goal

pub returns-then-item-letter-2 : goal.returns-then-item-letter-2
returns-then-item-letter-2 c so =
    let list : c.in-Some.item.kind ≡ list_kind = search rules in
    list_kept (region c.args.self.table) (region c.args.self.other) c.args.self.span.first c.args.self.span.last c.args.i c.in-Some.item c.in-Some.ensures list
    (c.is_outside.ensures so)
