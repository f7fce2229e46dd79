use Rattle.std.proofs.Common.{◌-◌, arith}
use Rattle.gvdb_alike.proofs.SpanLaws.{same_back}
use Rattle.gvdb_alike.proofs.span.same_from.Goals as goal

pub loop-step-preserved-then-have_same_up_to : goal.loop-step-preserved-then-have_same_up_to
loop-step-preserved-then-have_same_up_to c =
    let end = c.loop-step.end in
    let step = c.loop-step.step in
    let some = c.loop-step-test.true in
    let within = c.loop-step.invariant.within in
    record {
      same = same_back c.args.one.now c.args.other.now (end - step) end (omega arith) c.loop-step.invariant.same (c.have_same_up_to.ensures.same c.if-have_same_up_to.true);
      within = omega (arith, within);
      differs = λ none. absurd (omega (arith, some, none));
    }
