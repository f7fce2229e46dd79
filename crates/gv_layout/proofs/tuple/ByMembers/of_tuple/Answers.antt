use Rattle.std.proofs.Common.{length, ap, ◌∙◌, sym, arith}
use Rattle.gv_types.specs.TypeStr.{ty}
use Rattle.gv_types.specs.Members.{members_left}
use Rattle.gv_layout.proofs.Widths.{width_is}
use Rattle.gv_layout.proofs.Cuts.{tuple_placed, tuple_unplaced, body_within}
use Rattle.gv_layout.proofs.Counts.{members_few}
use Rattle.gv_layout.proofs.tuple.ByMembers.of_tuple.Goals as goal

pub returns-in_default : goal.returns-in_default
returns-in_default c =
    tuple_unplaced (ty c.args.of) (members_left c.members-members.result) c.args.bytes.now c.from-width.result 0 c.members-members.ensures (sym c.in_default.is ∙ c.body_of.ensures)

pub returns : goal.returns
returns c =
    tuple_placed (ty c.args.of) (members_left c.members-members.result) c.args.bytes.now c.from-width.result c.in-Some.body
    (c.from-width.ensures ∙ c.offset_width.ensures) c.members-members.ensures (sym c.in-Some.is ∙ c.body_of.ensures)

pub invariant_of-result : goal.invariant_of-result
invariant_of-result c =
    let width = width_is (length c.args.bytes.now) c.from-width.result c.offset_width.result c.from-width.ensures c.offset_width.ensures in
    record { narrow = width.narrow; inside = omega arith; after = omega arith; few = omega (arith, ap length c.members-members.ensures, members_few c.args.of.text.now c.args.of.spells_type) }

pub invariant_of-result-2 : goal.invariant_of-result-2
invariant_of-result-2 c =
    let width = width_is (length c.args.bytes.now) c.from-width.result c.offset_width.result c.from-width.ensures c.offset_width.ensures in
    record {
      narrow = width.narrow;
      inside = body_within (ty c.args.of) c.args.bytes.now c.in-Some.body (sym c.in-Some.is ∙ c.body_of.ensures);
      after = omega arith;
      few = omega (arith, ap length c.members-members.ensures, members_few c.args.of.text.now c.args.of.spells_type);
    }
