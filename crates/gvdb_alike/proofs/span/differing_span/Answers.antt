use Rattle.gvdb_alike.proofs.SpanLaws.{span_of_equal}
use Rattle.std.proofs.Common.{arith}
use Rattle.gvdb_alike.proofs.span.differing_span.Goals as goal

pub returns-clause-some : goal.returns-clause-some
returns-clause-some c =
    let within = c.same_before-first.ensures.within in
    let ne = c.if-first-one.false in
    span_of_equal c.args.one.now c.args.other.now c.same_before-first.result c.same_before-first.ensures.same c.same_before-first.ensures.differs
    c.same_from-last.result c.if-one-other.false (omega (arith, within, ne)) c.same_from-last.ensures.same c.same_from-last.ensures.within c.same_from-last.ensures.differs
