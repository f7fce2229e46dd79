use Rattle.std.proofs.Common.{◌≡◌, drop}
use Rattle.dconf_left.specs.Left.{records, state_of}
use Rattle.dconf_left.proofs.states.state_of.Given as goal

-- what the rest says
abbrev pub invariant-loop-entry : goal.invariant-loop-entry
invariant-loop-entry l = state_of l.file (drop l.entry-index (records l.left)) ≡ state_of l.file (records l.left)
