use Rattle.std.proofs.Common.{sym, ◌∙◌}
use Rattle.gv_types.proofs.TypeLists.{read_is_shorter, types_go_on, type_is_too_long, stop_is_no_types, end_is_types}
use Rattle.gv_types.proofs.signature.are_types.Goals as goal

pub loop-rest-smaller : goal.loop-rest-smaller
loop-rest-smaller c = read_is_shorter c.loop-rest.rest.now c.in-Ok.after.now c.in-Ok.ensures

pub loop-rest-preserved : goal.loop-rest-preserved
loop-rest-preserved c =
    c.loop-rest.invariant ∙ types_go_on c.loop-rest.rest.now c.in-Ok.after.now c.in-Ok.ensures c.if-rest-after-le-MAX_LEN.true

pub returns-in_default : goal.returns-in_default
returns-in_default c =
    sym (c.loop-rest.invariant ∙ type_is_too_long c.loop-rest.rest.now c.in-Ok.after.now c.in-Ok.ensures c.if-rest-after-le-MAX_LEN.false)

pub returns-in_default-2 : goal.returns-in_default-2
returns-in_default-2 c =
    let stop = rw c.in_default.is at c.after_type.ensures in
    sym (c.loop-rest.invariant ∙ stop_is_no_types c.loop-rest.rest.now c.in_default.field-0.rest.now c.in_default.field-0.halt (sym c.is_empty.ensures ∙ c.loop-rest-test.true) stop)

pub returns : goal.returns
returns c = sym (c.loop-rest.invariant ∙ end_is_types c.loop-rest.rest.now (sym c.is_empty.ensures ∙ c.loop-rest-test.false))
