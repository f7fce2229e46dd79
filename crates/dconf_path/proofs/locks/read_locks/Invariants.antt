use Rattle.std.proofs.Common.{length, map}
use Rattle.dconf_model.specs.Locks.{lock_line}
use Rattle.dconf_path.specs.Paths.{lock_line_of}
use Rattle.dconf_path.proofs.LineSteps.{HasRead, parts_of}
use Rattle.dconf_path.proofs.locks.read_locks.Given as goal

abbrev pub invariant-loop-before : goal.invariant-loop-before
invariant-loop-before l = HasRead lock_line (parts_of l.text) (length l.yielded) (map lock_line_of l.locks.items)
