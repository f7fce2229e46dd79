use Rattle.std.proofs.Common.{◌≡◌, drop}
use Rattle.dconf_left.specs.Numbers.{number_of}
use Rattle.dconf_left.proofs.numbers.number_of_bytes.Given as goal

-- the number so far, and what is left
abbrev pub invariant-loop-byte : goal.invariant-loop-byte
invariant-loop-byte l = number_of l.number (drop l.byte-index l.bytes) ≡ number_of l.fn.number l.bytes
