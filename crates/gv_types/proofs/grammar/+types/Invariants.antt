use Rattle.std.proofs.Common.{◌+◌, ◌*◌, length}
use Rattle.gv_types.proofs.MemberLaws.{HasRead}
use Rattle.gv_types.proofs.grammar.+types.Given as goal

abbrev pub decreases-read_members : goal.decreases-read_members
decreases-read_members l = 2 * l.room + 1

abbrev pub decreases-read_element : goal.decreases-read_element
decreases-read_element l = 2 * l.room + 1

abbrev pub decreases-read_entry : goal.decreases-read_entry
decreases-read_entry l = 2 * l.room + 1

abbrev pub decreases-read_type : goal.decreases-read_type
decreases-read_type l = 2 * l.room

abbrev pub invariant-read_members-loop-letter : goal.invariant-read_members-loop-letter
invariant-read_members-loop-letter l = HasRead l.room l.text l.rest l.singles

abbrev pub decreases-read_members-loop-letter : goal.decreases-read_members-loop-letter
decreases-read_members-loop-letter l = length l.rest
