use Rattle.std.proofs.Common.{take, map}
use Rattle.dconf_model.specs.Databases.{AreLayers}
use Rattle.dconf_layers.specs.Verdicts.{bytes_of_files}
use Rattle.dconf_layers.specs.LayerSettings.{settings_of}
use Rattle.dconf_engine.proofs.engine.open_layers.Given as goal

-- the layers are those of the files before this one
abbrev pub invariant-loop-i : goal.invariant-loop-i
invariant-loop-i l = AreLayers (take l.i (bytes_of_files l.files)) (map settings_of l.layers.items)
