use Rattle.std.proofs.Common.{◌≡◌, map, string_bytes, take}
use Rattle.dconf_layers.specs.LayerSettings.{seen_in}
use Rattle.dconf_json.specs.Compared.{key_lines}
use Rattle.dconf_json.proofs.compared.key_lines.Given as goal

abbrev pub invariant-loop-path : goal.invariant-loop-path
invariant-loop-path l = string_bytes l.text ≡ key_lines (seen_in l.first) (seen_in l.second) (map string_bytes (take l.path-index l.paths))
