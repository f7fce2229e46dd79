use Rattle.std.proofs.Common.{take}
use Rattle.dconfdb_calls.specs.Changed.{AreMadeInTurn}
use Rattle.dconfdb_calls.proofs.changes.make_all.Given as goal

-- the changes before this one are made
abbrev pub invariant-loop-at : goal.invariant-loop-at
invariant-loop-at l = AreMadeInTurn (take l.at l.changes) l.initial.engine l.engine
