use Rattle.std.proofs.Common.{◌≡◌, ◌≤◌, ◌+◌, ◌-◌, ◌*◌, ◌↔◌, length, take, drop, None}
use Rattle.gv_model.specs.Ty.{spelling, spellings, members, types_from}
use Rattle.gv_model.specs.Layout.{offset_width}
use Rattle.gv_model.specs.Arrays.{elements_end}
use Rattle.gv_types.specs.TypeStr.{ty}
use Rattle.gv_types.specs.Members.{members_left}
use Rattle.gv_normal.specs.Tables.{offset_number}
use Rattle.gv_normal.proofs.OpenElements.{AreNormalFrom, table, values_from}
use Rattle.gv_normal.proofs.OpenMembers.{AreOpenFrom, AreWhole, open_values}
use Rattle.gv_normal.proofs.StepBounds.{in_elements, in_members}
use Rattle.gv_normal.proofs.+normal.Given as goal

abbrev pub decreases-array::are_normal_elements : goal.decreases-array::are_normal_elements
decreases-array::are_normal_elements l = 4 * l.levels + 2

abbrev pub decreases-array::is_normal_array : goal.decreases-array::is_normal_array
decreases-array::is_normal_array l = 4 * l.levels + 3

abbrev pub decreases-in_place::is_normal_open : goal.decreases-in_place::is_normal_open
decreases-in_place::is_normal_open l = 4 * l.levels

abbrev pub decreases-in_place::is_normal_within : goal.decreases-in_place::is_normal_within
decreases-in_place::is_normal_within l = 4 * l.levels + 1

abbrev pub decreases-maybe::is_normal_maybe : goal.decreases-maybe::is_normal_maybe
decreases-maybe::is_normal_maybe l = 4 * l.levels + 3

abbrev pub decreases-tuple::are_normal_members : goal.decreases-tuple::are_normal_members
decreases-tuple::are_normal_members l = 4 * l.levels + 3

abbrev pub decreases-tuple::is_normal_member : goal.decreases-tuple::is_normal_member
decreases-tuple::is_normal_member l = 4 * l.levels + 1

abbrev pub decreases-variant::is_normal_variant : goal.decreases-variant::is_normal_variant
decreases-variant::is_normal_variant l = 4 * l.levels + 3

-- what is left decides
abbrev pub invariant-array::are_normal_elements-loop-i :
    goal.invariant-array::are_normal_elements-loop-i
invariant-array::are_normal_elements-loop-i l = record {
  same : AreNormalFrom l.fn.levels (ty l.fn.element) (take (elements_end l.fn.bytes None) l.fn.bytes) l.end (drop l.i (table l.fn.bytes))
      ↔ AreNormalFrom l.fn.levels (ty l.fn.element) (take (elements_end l.fn.bytes None) l.fn.bytes) 0 (table l.fn.bytes);
  passed : l.i ≤ offset_number l.fn.bytes;
  within : l.end ≤ elements_end l.fn.bytes None;
  few : l.steps ≤ l.fn.steps + in_elements (length (spelling (ty l.fn.element))) l.end l.i;
  grows : l.fn.steps ≤ l.steps;
  exact : l.steps + values_from (ty l.fn.element) (take (elements_end l.fn.bytes None) l.fn.bytes) l.end (drop l.i (table l.fn.bytes))
      ≡ l.fn.steps + values_from (ty l.fn.element) (take (elements_end l.fn.bytes None) l.fn.bytes) 0 (table l.fn.bytes);
}

abbrev pub invariant-tuple::are_normal_members-loop-member :
    goal.invariant-tuple::are_normal_members-loop-member
invariant-tuple::are_normal_members-loop-member l =
    (goal.iterator-tuple::are_normal_members-loop-member).can_next l.members ×
    (goal.iterator-tuple::are_normal_members-loop-member).is_finite l.members ×
    record {
      same : AreOpenFrom l.fn.levels l.fn.bytes (offset_width (length l.fn.bytes)) l.tail l.end (types_from (members_left l.members))
          ↔ AreOpenFrom l.fn.levels l.fn.bytes (offset_width (length l.fn.bytes)) (length l.fn.bytes) 0 (members (ty l.fn.of));
      within : l.end ≤ length l.fn.bytes;
      tail_within : l.tail ≤ length l.fn.bytes;
      whole : AreWhole (offset_width (length l.fn.bytes)) (length l.fn.bytes) l.tail;
      left : length (spellings (types_from (members_left l.members))) ≤ length (spellings (members (ty l.fn.of)));
      few : l.steps ≤ l.fn.steps + in_members (length (spellings (members (ty l.fn.of))) - length (spellings (types_from (members_left l.members)))) l.end;
      grows : l.fn.steps ≤ l.steps;
      exact : l.steps + open_values l.fn.bytes (offset_width (length l.fn.bytes)) l.tail l.end (types_from (members_left l.members))
          ≡ l.fn.steps + open_values l.fn.bytes (offset_width (length l.fn.bytes)) (length l.fn.bytes) 0 (members (ty l.fn.of));
    }
