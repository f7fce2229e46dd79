use Rattle.std.proofs.Common.{◌≡◌, ◌≤◌, ◌+◌, ◌*◌}
use Rattle.gv_model.specs.Ty.{nesting, greatest_nesting, members}
use Rattle.gv_model.specs.Patterns.{exactly_each}
use Rattle.gv_types.specs.TypeStr.{ty}
use Rattle.gv_types.specs.Members.{members_left}
use Rattle.gv_types.proofs.NestingLaws.{greatest_of}
use Rattle.gv_patterns.proofs.PatternLists.{before}
use Rattle.gv_patterns.proofs.ExactLaws.{exactly_all}
use Rattle.gv_patterns.proofs.pattern.Pattern.+exactly.Given as goal

abbrev pub decreases-exactly : goal.decreases-exactly
decreases-exactly l = 2 * nesting (ty l.of) + 1

abbrev pub decreases-exactly_each : goal.decreases-exactly_each
decreases-exactly_each l = 2 * greatest_nesting (members (ty l.of)) + 2

abbrev pub decreases-exactly_entry : goal.decreases-exactly_entry
decreases-exactly_entry l = 2 * nesting (ty l.of)

abbrev pub invariant-exactly_each-loop-member : goal.invariant-exactly_each-loop-member
invariant-exactly_each-loop-member l = record {
  next : (goal.iterator-exactly_each-loop-member).can_next l.member-iterator;
  finite : (goal.iterator-exactly_each-loop-member).is_finite l.member-iterator;
  deepest : greatest_of (members_left l.member-iterator) ≤ greatest_nesting (members (ty l.fn.of));
  whole : before l.sets.items (exactly_all (members_left l.member-iterator)) ≡ exactly_each (members (ty l.fn.of));
}
