use Rattle.std.proofs.Common.{◌≡◌, drop}
use Rattle.dconf_model.specs.Paths.{has_two_slashes}
use Rattle.dconf_texts.proofs.KindLaws.{after_one}
use Rattle.dconf_texts.proofs.kinds.has_two_slashes.Given as goal

abbrev pub invariant-loop-byte : goal.invariant-loop-byte
invariant-loop-byte l = after_one l.after_slash (drop l.byte-index l.text) ≡ has_two_slashes l.text
