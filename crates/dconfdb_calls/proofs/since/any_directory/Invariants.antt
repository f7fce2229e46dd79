use Rattle.std.proofs.Common.{◌≡◌, drop}
use Rattle.dconfdb_calls.specs.Since.{has_directory}
use Rattle.dconfdb_calls.proofs.since.any_directory.Given as goal

-- those that are left answer for all
abbrev pub invariant-loop-change : goal.invariant-loop-change
invariant-loop-change l = has_directory (drop l.change-index l.changes) ≡ has_directory l.changes
