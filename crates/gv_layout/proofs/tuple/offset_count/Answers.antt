use Rattle.std.proofs.Common.{ap, ◌∙◌, arith}
use Rattle.gv_model.specs.Ty.{members, types_from}
use Rattle.gv_model.specs.Tuples.{offset_count}
use Rattle.gv_types.specs.TypeStr.{ty}
use Rattle.gv_types.specs.Members.{members_left}
use Rattle.gv_layout.proofs.OffsetCounts.{count_after, count_start, count_room, count_step, count_most, counted_open, counted_shut, offsets_few}
use Rattle.gv_layout.proofs.tuple.offset_count.Goals.{then-is_open, else-is_open}
use Rattle.gv_layout.proofs.tuple.offset_count.Goals as goal

pub loop-member-init : goal.loop-member-init
loop-member-init c =
    count_start (ty c.args.of) (members_left c.into_iter-member-iterator.result) (ap members_left c.into_iter-member-iterator.ensures.into_iter_gives ∙ c.members-member-items.ensures)

pub overflow_add-count : goal.overflow_add-count
overflow_add-count c =
    let room = count_room c.loop-member.count c.loop-member.is_open (ty c.in-Some.member) (members_left c.next.new.self) (members_left c.loop-member.member-iterator)
    (offset_count (members (ty c.args.of))) c.in-Some.ensures.steps c.if-is_open.true c.loop-member.invariant in
    omega (arith, room, offsets_few c.args.of.text.now c.args.of.spells_type)

pub loop-member-preserved : goal.loop-member-preserved
loop-member-preserved c =
    count_step c.loop-member.count c.if-is_open.count c.loop-member.is_open c.is_none-is_open.result (ty c.in-Some.member)
    (members_left c.next.new.self) (members_left c.loop-member.member-iterator) c.fixed_size.result (offset_count (members (ty c.args.of))) c.in-Some.ensures.steps
    (elim c.if-is_open.branch [
      | then-is_open w ↦ counted_open c.loop-member.count c.if-is_open.count c.loop-member.is_open w.if-is_open.true w.count-is
      | else-is_open w ↦ counted_shut c.loop-member.count c.if-is_open.count c.loop-member.is_open w.if-is_open.false w.count-is
    ])
    c.is_none-is_open.ensures c.fixed_size.ensures c.loop-member.invariant

pub returns-clause-few : goal.returns-clause-few
returns-clause-few c =
    let most = count_most c.loop-member.count (count_after c.loop-member.is_open (types_from (members_left c.loop-member.member-iterator))) (offset_count (members (ty c.args.of))) c.loop-member.invariant in
    omega (arith, most, offsets_few c.args.of.text.now c.args.of.spells_type)
