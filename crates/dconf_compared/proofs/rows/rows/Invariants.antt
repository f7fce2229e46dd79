use Rattle.std.proofs.Common.{◌≡◌, map, string_bytes, take, codes}
use Rattle.keyfile_core.specs.DumpRows.{AreBelow, setting_of}
use Rattle.dconf_layers.specs.LayerSettings.{seen_in}
use Rattle.dconf_compared.specs.Compared.{settings_anew}
use Rattle.dconf_compared.proofs.rows.rows.Given as goal

abbrev pub invariant-loop-path : goal.invariant-loop-path
invariant-loop-path l =
    (map setting_of l.rows.items ≡ settings_anew (seen_in l.first) (seen_in l.second) (map string_bytes (take l.path-index l.paths)))
    × AreBelow (codes "/") l.rows.items
