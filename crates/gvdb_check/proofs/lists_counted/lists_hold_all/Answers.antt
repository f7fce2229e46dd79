use Rattle.std.proofs.Common.{arith}
use Rattle.std.proofs.lemmas.Bool.{eqb-true}
use Rattle.gvdb_format.specs.Tables.{region}
use Rattle.gvdb_check.proofs.CountedLists.{lists_kept, none_counted, one_more_counted}
use Rattle.gvdb_check.proofs.lists_counted.lists_hold_all.Goals as goal

pub loop-i-init : goal.loop-i-init
loop-i-init c = none_counted (region c.args.table) c.n_items-left.result c.n_items-left.ensures

pub loop-i-preserved : goal.loop-i-preserved
loop-i-preserved c =
    one_more_counted (region c.args.table) c.loop-i.i c.loop-i.left _ _ c.loop-i.invariant (omega (arith, c.loop-i-test.true, c.n_items-i-end.ensures)) c.in-Some.ensures
    (omega (arith, c.in-Some-checked_sub.ensures.0, c.in-Some-checked_sub.ensures.1))

pub returns : goal.returns
returns c = λ none_left. lists_kept (region c.args.table) c.loop-i.i c.loop-i.left c.loop-i.invariant (eqb-true c.loop-i.left 0 none_left) (omega (arith, c.loop-i-test.false, c.n_items-i-end.ensures))
