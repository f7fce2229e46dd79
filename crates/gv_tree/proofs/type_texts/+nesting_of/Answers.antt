use Rattle.std.proofs.Common.{arith, ap, ◌∙◌}
use Rattle.gv_types.specs.Members.{members_left}
use Rattle.gv_types.proofs.NestingLaws.{greatest_of, greatest_of-listed, low_type, element_nesting, members_nesting, one_level}
use Rattle.gv_tree.proofs.type_texts.+nesting_of.Goals as goal

pub nesting_of-requires : goal.nesting_of-requires
nesting_of-requires t c =
    let less = element_nesting _ _ _ c.element.ensures c.unwrap.ensures in
    (omega (arith, less), tt)

pub overflow_add-result : goal.overflow_add-result
overflow_add-result t c =
    let less = element_nesting _ _ _ c.element.ensures c.unwrap.ensures in
    omega (arith, less, c.nesting_of.ensures, low_type _ c.args.of.spells_type)

pub loop-member-init : goal.loop-member-init
loop-member-init t c =
    let all = ap greatest_of (ap members_left c.into_iter-member-iterator.ensures.into_iter_gives ∙ c.members-member-items.ensures) ∙ greatest_of-listed _ in
    record { next = tt; finite = tt; deepest = omega (arith, all) }

pub nesting_of-requires-in-loop-member : goal.nesting_of-requires-in-loop-member
nesting_of-requires-in-loop-member t c =
    let deep = members_nesting _ _ c.class.ensures c.in-Tuple.is in
    let left = ap greatest_of c.in-Some.ensures.steps in
    (omega (arith, deep, left, c.loop-member.invariant.deepest), tt)

pub overflow_add-result-in-Tuple : goal.overflow_add-result-in-Tuple
overflow_add-result-in-Tuple t c =
    let deep = members_nesting _ _ c.class.ensures c.in-Tuple.is in
    omega (arith, deep, c.loop-member.invariant.deepest, low_type _ c.args.of.spells_type)

pub returns-in-Basic : goal.returns-in-Basic
returns-in-Basic t c = one_level _ _ c.class.ensures c.in-Basic.is

pub returns-in-Array : goal.returns-in-Array
returns-in-Array t c =
    let less = element_nesting _ _ _ c.element.ensures c.unwrap.ensures in
    omega (arith, less, c.nesting_of.ensures)

pub returns-in-None : goal.returns-in-None
returns-in-None t c =
    let deep = members_nesting _ _ c.class.ensures c.in-Tuple.is in
    let left = ap greatest_of c.in-None.ensures.steps.0 in
    omega (arith, deep, left, c.loop-member.invariant.deepest)
