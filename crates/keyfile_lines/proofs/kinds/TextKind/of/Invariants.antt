use Rattle.std.proofs.Common.{◌≡◌, true, map, length}
use Rattle.dconf_model.specs.Lines.{lines_of}
use Rattle.keyfile_lines.specs.Kinds.{kind_from, sign_of}
use Rattle.keyfile_lines.proofs.kinds.TextKind.of.Given as goal

-- what is left says what the whole text says
abbrev pub invariant-loop-line : goal.invariant-loop-line
invariant-loop-line l = kind_from l.is_first (map sign_of (lines_of l.cursor.rest.now)) ≡ kind_from true (map sign_of (lines_of l.text))

abbrev pub decreases-loop-line : goal.decreases-loop-line
decreases-loop-line l = length l.cursor.rest.now
