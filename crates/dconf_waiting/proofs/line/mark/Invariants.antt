use Rattle.std.proofs.Common.{◌≡◌, ◌++◌, map, take, drop}
use Rattle.dconf_waiting.specs.Fates.{marked}
use Rattle.dconf_waiting.proofs.line.mark.Given as goal

abbrev pub invariant-loop-waiter : goal.invariant-loop-waiter
invariant-loop-waiter l = l.line ≡ map (marked l.is_written) (take l.waiter-index l.initial.line) ++ drop l.waiter-index l.initial.line
