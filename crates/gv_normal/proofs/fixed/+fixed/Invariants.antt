use Rattle.std.proofs.Common.{◌≡◌, ◌≤◌, ◌+◌, ◌*◌, ◌↔◌, suc, length}
use Rattle.gv_model.specs.Ty.{spellings, members, types_from}
use Rattle.gv_types.specs.TypeStr.{ty}
use Rattle.gv_types.specs.Members.{members_left}
use Rattle.gv_normal.proofs.FixedMembers.{AreFixedFrom, fixed_values}
use Rattle.gv_normal.proofs.fixed.+fixed.Given as goal

abbrev pub decreases-is_normal_fixed : goal.decreases-is_normal_fixed
decreases-is_normal_fixed l = 2 * l.levels

abbrev pub decreases-are_normal_fixed : goal.decreases-are_normal_fixed
decreases-are_normal_fixed l = suc (2 * l.levels)

-- what is left decides
abbrev pub invariant-are_normal_fixed-loop-member : goal.invariant-are_normal_fixed-loop-member
invariant-are_normal_fixed-loop-member l = record {
  same : AreFixedFrom l.fn.levels l.fn.bytes l.end (types_from (members_left l.member-iterator)) ↔ AreFixedFrom l.fn.levels l.fn.bytes 0 (members (ty l.fn.of));
  within : l.end ≤ length l.fn.bytes;
  few : l.steps + length (spellings (types_from (members_left l.member-iterator))) ≤ l.fn.steps + length (spellings (members (ty l.fn.of)));
  grows : l.fn.steps ≤ l.steps;
  exact : l.steps + fixed_values l.fn.bytes l.end (types_from (members_left l.member-iterator)) ≡ l.fn.steps + fixed_values l.fn.bytes 0 (members (ty l.fn.of));
}
