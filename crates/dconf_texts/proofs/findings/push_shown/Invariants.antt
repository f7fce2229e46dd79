use Rattle.std.proofs.Common.{◌≡◌, ◌++◌, take, vec_items}
use Rattle.dconf_texts.specs.Findings.{shown}
use Rattle.dconf_texts.proofs.findings.push_shown.Given as goal

abbrev pub invariant-loop-byte : goal.invariant-loop-byte
invariant-loop-byte l = vec_items l.line ≡ vec_items l.fn.line ++ shown (take l.byte-index l.bytes)
