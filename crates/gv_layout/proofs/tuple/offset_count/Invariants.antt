use Rattle.std.proofs.Common.{◌≡◌, ◌+◌}
use Rattle.gv_model.specs.Ty.{members, types_from}
use Rattle.gv_model.specs.Tuples.{offset_count}
use Rattle.gv_types.specs.TypeStr.{ty}
use Rattle.gv_types.specs.Members.{members_left}
use Rattle.gv_layout.proofs.OffsetCounts.{count_after}
use Rattle.gv_layout.proofs.tuple.offset_count.Given as goal

abbrev pub invariant-loop-member : goal.invariant-loop-member
invariant-loop-member l = l.count + count_after l.is_open (types_from (members_left l.member-iterator)) ≡ offset_count (members (ty l.of))
