use Rattle.std.proofs.Common.{◌≡◌, ◌++◌, length, string_bytes}
use Rattle.dconf_texts.specs.Strings.{as_utf8}
use Rattle.dconf_texts.proofs.strings.read_all.Given as goal

-- what is read, and what is left, are the whole
abbrev pub invariant-loop-rest : goal.invariant-loop-rest
invariant-loop-rest l = string_bytes l.text ++ as_utf8 l.rest ≡ as_utf8 l.bytes

abbrev pub decreases-loop-rest : goal.decreases-loop-rest
decreases-loop-rest l = length l.rest
