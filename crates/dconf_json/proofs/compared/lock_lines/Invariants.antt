use Rattle.std.proofs.Common.{◌≡◌, map, string_bytes, take}
use Rattle.dconf_json.specs.Compared.{lock_lines}
use Rattle.dconf_json.proofs.compared.lock_lines.Given as goal

abbrev pub invariant-loop-lock : goal.invariant-loop-lock
invariant-loop-lock l = string_bytes l.text ≡ lock_lines l.is_new (map string_bytes (take l.lock-index l.locks)) (map string_bytes l.others)
