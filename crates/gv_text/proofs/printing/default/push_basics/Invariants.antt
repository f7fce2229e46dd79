use Rattle.std.proofs.Common.{◌≤◌, length, string_bytes}
use Rattle.gv_types.specs.Members.{members_left}
use Rattle.gv_text.specs.Defaults.{defaults_left, AreLeft}
use Rattle.gv_text.proofs.printing.default.push_basics.Given as goal

-- the members that were taken are written
abbrev pub invariant-loop-of : goal.invariant-loop-of
invariant-loop-of l =
    AreLeft l.fn.mark (defaults_left l.fn.members) (defaults_left l.members) l.levels l.annotated (string_bytes l.fn.to) (string_bytes l.to)
    × (length (members_left l.members) ≤ length (members_left l.fn.members))

abbrev pub decreases-loop-of : goal.decreases-loop-of
decreases-loop-of l = length (members_left l.members)
