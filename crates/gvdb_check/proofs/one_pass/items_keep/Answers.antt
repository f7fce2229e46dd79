use Rattle.std.proofs.Common.{◌≤◌, arith}
use Rattle.std.proofs.lemmas.Bool.{eqb-true}
use Rattle.dconf_model.specs.Table.{item_count}
use Rattle.gvdb_check.specs.OnePass.{ItemKeeps}
use Rattle.gvdb_format.specs.Tables.{region}
use Rattle.gvdb_check.proofs.Below.{below_next}
use Rattle.gvdb_check.proofs.CountedLists.{lists_kept, none_counted, one_more_counted}
use Rattle.gvdb_check.proofs.OnePass.{all_kept}
use Rattle.gvdb_check.proofs.one_pass.items_keep.Goals as goal

pub loop-i-init : goal.loop-i-init
loop-i-init c = record { kept = λ j lt. absurd (omega (arith, lt)); counted = none_counted (region c.args.table) c.n_items-left.result c.n_items-left.ensures }

pub loop-i-preserved : goal.loop-i-preserved
loop-i-preserved c =
    let t = region c.args.table in
    let before = c.loop-i.invariant in
    record {
      kept = below_next (ItemKeeps t) c.loop-i.i before.kept c.in-Some.ensures.kept;
      counted = one_more_counted t c.loop-i.i c.loop-i.left _ _ before.counted (omega (arith, c.loop-i-test.true, c.n_items-i-end.ensures)) c.in-Some.ensures.listed
          (omega (arith, c.in-Some-checked_sub.ensures.0, c.in-Some-checked_sub.ensures.1));
    }

pub returns : goal.returns
returns c =
    let t = region c.args.table in
    let end : item_count t ≤ c.loop-i.i = omega (arith, c.loop-i-test.false, c.n_items-i-end.ensures) in
    λ none_left. all_kept t (λ j counted. c.loop-i.invariant.kept j (omega (arith, counted, end))) c.requires
    (lists_kept t c.loop-i.i c.loop-i.left c.loop-i.invariant.counted (eqb-true c.loop-i.left 0 none_left) end)
