use Rattle.std.proofs.Common.{◌≡◌, map, take}
use Rattle.dconf_path.specs.Paths.{lock_line_of}
use Rattle.dconf_compile.specs.Added.{with_locks}
use Rattle.dconf_compile.proofs.locks.add_locks.Given as goal

abbrev pub invariant-loop-lock : goal.invariant-loop-lock
invariant-loop-lock l = l.settings ≡ with_locks (map lock_line_of (take l.lock-index l.lock-items)) l.fn.settings
