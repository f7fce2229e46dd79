use Rattle.std.proofs.Common.{◌≡◌, max}
use Rattle.gv_model.specs.Ty.{nesting, greatest_nesting, members}
use Rattle.gv_types.specs.TypeStr.{ty}
use Rattle.gv_types.specs.Members.{members_left}
use Rattle.gv_types.proofs.NestingLaws.{greatest_of}
use Rattle.gv_tree.proofs.type_texts.+nesting_of.Given as goal

abbrev pub decreases-nesting_of : goal.decreases-nesting_of
decreases-nesting_of l = nesting (ty l.of)

abbrev pub invariant-loop-member : goal.invariant-loop-member
invariant-loop-member l = record {
  next : (goal.iterator-loop-member).can_next l.member-iterator;
  finite : (goal.iterator-loop-member).is_finite l.member-iterator;
  deepest : max l.deepest (greatest_of (members_left l.member-iterator)) ≡ greatest_nesting (members (ty l.fn.of));
}
