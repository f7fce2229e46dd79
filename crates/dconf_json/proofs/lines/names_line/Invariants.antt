use Rattle.std.proofs.Common.{◌≡◌, ◌∷◌, [], map, string_bytes, take}
use Rattle.json.specs.Token.{begin_array, string}
use Rattle.dconf_json.proofs.lines.names_line.Given as goal

abbrev pub invariant-loop-name : goal.invariant-loop-name
invariant-loop-name l = (l.writer.before ≡ []) × (l.writer.tokens ≡ begin_array ∷ map string (map string_bytes (take l.name-index l.names)))
