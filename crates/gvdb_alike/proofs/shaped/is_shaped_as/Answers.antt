use Rattle.std.proofs.Common.{◌≡◌, rules, subst}
use Rattle.dconf_model.specs.Searchable.{EachItem}
use Rattle.dconf_model.specs.Table.{item_count}
use Rattle.gvdb_read.specs.declared.table.Table.{Table}
use Rattle.gvdb_read.specs.Tables.{region}
use Rattle.gvdb_alike.specs.SameBytes.{AreBucketsKept, IsShapeKept}
use Rattle.gvdb_alike.proofs.KeptLaws.{known_by_shape}
use Rattle.gvdb_alike.proofs.shaped.is_shaped_as.Goals as goal

pub returns-then-has_buckets : goal.returns-then-has_buckets
returns-then-has_buckets c is sound =
    let t = region c.args.table in
    let u = region c.args.sound in
    let counted : item_count t ≡ item_count u = search rules in
    let good : AreBucketsKept t u = search rules in
    let each : EachItem t (IsShapeKept t u) =
    subst (λ (a : Table). EachItem (region a) (IsShapeKept (region a) u)) c.of-patch.ensures.table
    (subst (λ (b : Table). EachItem (region c.of-patch.result.table) (IsShapeKept (region c.of-patch.result.table) (region b))) c.of-patch.ensures.other (c.are_items_alike.ensures is)) in
    known_by_shape t u counted each good sound
