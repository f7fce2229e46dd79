use Rattle.std.proofs.Common.{◌≡◌, drop}
use Rattle.dconf_model.specs.Layers.{first_from}
use Rattle.dconf_layers.specs.LayerSettings.{seen_in}
use Rattle.gvdb_read.specs.Lookups.{name_text}
use Rattle.dconf_layers.proofs.lent.LentLayers.place_named.Given as goal

-- no layer before this one has the path
abbrev pub invariant-loop-i : goal.invariant-loop-i
invariant-loop-i l =
    first_from l.i (drop l.i (seen_in l.self).layers) (name_text l.name)
    ≡ first_from l.from (drop l.from (seen_in l.self).layers) (name_text l.name)
