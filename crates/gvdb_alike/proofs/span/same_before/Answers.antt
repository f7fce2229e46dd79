use Rattle.std.proofs.Common.{arith}
use Rattle.gvdb_alike.proofs.SpanLaws.{same_further}
use Rattle.gvdb_alike.proofs.span.same_before.Goals as goal

pub loop-step-preserved-then-have_same : goal.loop-step-preserved-then-have_same
loop-step-preserved-then-have_same c =
    let at = c.loop-step.at in
    let step = c.loop-step.step in
    let some = c.loop-step-test.true in
    let within = c.have_same.ensures.within c.if-have_same.true in
    record {
      same = same_further c.args.one.now c.args.other.now at step c.loop-step.invariant.same (c.have_same.ensures.same c.if-have_same.true);
      within = within.0;
      within_other = within.1;
      short = c.loop-step.invariant.short;
      differs = λ none. absurd (omega (arith, some, none));
    }
