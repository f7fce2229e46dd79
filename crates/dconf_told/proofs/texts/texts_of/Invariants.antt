use Rattle.std.proofs.Common.{◌≡◌, take, map}
use Rattle.std.specs.String.{string_bytes}
use Rattle.dconf_told.specs.Telling.{ended}
use Rattle.dconf_told.proofs.texts.texts_of.Given as goal

-- the texts so far
abbrev pub invariant-loop-text : goal.invariant-loop-text
invariant-loop-text l = l.all.items ≡ ended (map string_bytes (take l.text-index l.texts))
