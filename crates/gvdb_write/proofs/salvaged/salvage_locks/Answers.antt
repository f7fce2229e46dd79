use Rattle.std.proofs.Common.{◌∙◌, ◌≤◌, refl, arith}
use Rattle.dconf_model.specs.Table.{item_count}
use Rattle.gvdb_read.specs.Tables.{region}
use Rattle.gvdb_write.proofs.SalvagedSteps.{none_locked, one_locked, all_locked}
use Rattle.gvdb_write.proofs.salvaged.salvage_locks.Goals as goal

pub loop-i-init : goal.loop-i-init
loop-i-init c = record { locks = none_locked (region c.args.locks) c.args.map.now; values = refl }

pub loop-i-preserved : goal.loop-i-preserved
loop-i-preserved c = record {
  locks = one_locked (region c.args.locks) c.loop-i.i c.args.map.now c.loop-i.map c.salvage_lock.new.map c.loop-i.invariant.locks c.in_ok-salvage_lock.ensures.takes;
  values = c.in_ok-salvage_lock.ensures.takes.same_values ∙ c.loop-i.invariant.values;
}

pub returns-clause-locks : goal.returns-clause-locks
returns-clause-locks c =
    let all : item_count (region c.args.locks) ≤ c.loop-i.i = omega (arith, c.loop-i-test.false, c.n_items-i-end.ensures) in
    all_locked (region c.args.locks) c.loop-i.i c.args.map.now c.loop-i.map c.loop-i.invariant.locks all
