use Rattle.std.proofs.Common.{◌≡◌, map, string_bytes, take}
use Rattle.dconf_compared.specs.Compared.{lock_lines}
use Rattle.dconf_compared.proofs.lock_lines.lines_of.Given as goal

abbrev pub invariant-loop-lock : goal.invariant-loop-lock
invariant-loop-lock l = string_bytes l.text ≡ lock_lines l.start (map string_bytes (take l.lock-index l.locks)) (map string_bytes l.others)
