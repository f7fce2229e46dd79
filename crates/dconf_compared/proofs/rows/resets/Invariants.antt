use Rattle.std.proofs.Common.{◌≡◌, map, string_bytes, take}
use Rattle.dconf_layers.specs.LayerSettings.{seen_in}
use Rattle.dconf_compared.specs.Compared.{resets_of}
use Rattle.dconf_compared.proofs.rows.resets.Given as goal

abbrev pub invariant-loop-path : goal.invariant-loop-path
invariant-loop-path l = string_bytes l.text ≡ resets_of (seen_in l.first) (seen_in l.second) (map string_bytes (take l.path-index l.paths))
