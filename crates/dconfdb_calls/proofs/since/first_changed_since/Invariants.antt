use Rattle.std.proofs.Common.{true}
use Rattle.dconfdb_calls.specs.Seen.{layers_of}
use Rattle.dconfdb_calls.proofs.SinceLaws.{NoneSince}
use Rattle.dconfdb_calls.proofs.since.first_changed_since.Given as goal

-- none of the changes before this one is at a path where something else is seen
abbrev pub invariant-loop-at : goal.invariant-loop-at
invariant-loop-at l = NoneSince (layers_of l.expected true) (layers_of l.layers true) l.changes l.at
