use Rattle.std.proofs.Common.{subst₂, sym}
use Rattle.dconfdb_calls.specs.Changed.{IsNoChange}
use Rattle.dconfdb_calls.proofs.ChangeTurns.{changed_more, refused_at}
use Rattle.dconfdb_calls.proofs.changes.make_all.Goals as goal

pub returns-in-Err-clause-fault : goal.returns-in-Err-clause-fault
returns-in-Err-clause-fault c =
    let told = refused_at c.args.changes.now c.loop-at.at _ c.args.engine.now c.loop-at.engine c.in-Err.fault c.loop-at-test.true c.loop-at.invariant c.in-Err.ensures.fault in
    subst₂ (IsNoChange c.args.engine.now c.args.changes.now) (sym c.of_change.ensures.fault) (sym c.of_change.ensures.at) told

pub loop-at-preserved : goal.loop-at-preserved
loop-at-preserved c =
    changed_more c.args.changes.now c.loop-at.at _ c.args.engine.now c.loop-at.engine c.make.new.engine c.loop-at-test.true c.loop-at.invariant c.in_default.ensures.whole c.in_default.ensures.normal c.in_default.ensures.ok
