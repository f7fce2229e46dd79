use Rattle.std.proofs.Common.{refl, subst}
use Rattle.dconf_model.specs.Changes.{apply}
use Rattle.dconf_engine.specs.ChangeFaults.{Refuses}
use Rattle.dconf_store.specs.Changes.{change_of}
use Rattle.dconf_store.proofs.ChangesMade.{next_is_made, next_is_refused}
use Rattle.dconf_store.proofs.store.make_all.Goals as goal

pub loop-i-init : goal.loop-i-init
loop-i-init c = record { accepted = refl; whole = tt }

pub returns-in-Err-Fault-clause-fault : goal.returns-in-Err-Fault-clause-fault
returns-in-Err-Fault-clause-fault c =
    rw c.in-Err-Fault.field-0-is (next_is_refused c.args.engine.now c.loop-i.engine c.args.changes.now c.loop-i.i c.index-changes-i.result c.in-Err-Fault.flaw
    c.loop-i-test.true c.index-changes-i.is c.loop-i.invariant
    (subst (Refuses (apply c.loop-i.engine (change_of c.index-changes-i.result))) c.in-Err-Fault.field-0-is c.in-Err-Fault.ensures.fault))

pub loop-i-preserved : goal.loop-i-preserved
loop-i-preserved c =
    next_is_made c.args.engine.now c.loop-i.engine c.make.new.engine c.args.changes.now c.loop-i.i c.index-changes-i.result
    c.loop-i-test.true c.index-changes-i.is c.loop-i.invariant c.in-Ok.ensures.whole c.in-Ok.ensures.ok
