use Rattle.std.proofs.Common.{◌<◌, ◌≡◌, rules, subst, sym}
use Rattle.dconf_model.specs.Table.{item_count}
use Rattle.gvdb_read.specs.Tables.{region}
use Rattle.gvdb_check.proofs.Below.{below_next}
use Rattle.gvdb_alike.specs.SameBytes.{IsShapeKept}
use Rattle.gvdb_alike.proofs.shaped.are_items_alike.Goals as goal

pub loop-i-preserved : goal.loop-i-preserved
loop-i-preserved c =
    below_next (IsShapeKept (region c.args.patch.table) (region c.args.patch.other)) c.loop-i.i c.loop-i.invariant (c.keeps_shape.ensures (search rules))

pub returns : goal.returns
returns c is k within =
    let all : c.loop-i.i ≡ item_count (region c.args.patch.table) = search rules in
    c.loop-i.invariant k (subst (λ n. k < n) (sym all) within)
