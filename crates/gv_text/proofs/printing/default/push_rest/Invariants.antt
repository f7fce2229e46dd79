use Rattle.std.proofs.Common.{length, string_bytes}
use Rattle.gv_types.specs.Members.{members_left}
use Rattle.gv_text.specs.Defaults.{defaults_left, AreLeft}
use Rattle.gv_text.proofs.printing.default.push_rest.Given as goal

abbrev pub invariant-loop-member : goal.invariant-loop-member
invariant-loop-member l =
    AreLeft l.fn.mark (defaults_left l.fn.members) (defaults_left l.left) l.levels l.annotated (string_bytes l.fn.to) (string_bytes l.to)

abbrev pub decreases-loop-member : goal.decreases-loop-member
decreases-loop-member l = length (members_left l.left)
