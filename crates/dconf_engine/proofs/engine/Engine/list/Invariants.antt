use Rattle.std.proofs.Common.{◌≡◌, drop, map}
use Rattle.std.specs.FinMap.{empty}
use Rattle.dconf_model.specs.Layers.{all_paths}
use Rattle.dconf_path.specs.Paths.{directory_text}
use Rattle.dconf_layers.specs.LayerSettings.{settings_of}
use Rattle.dconf_layers.specs.TextSets.{with_children}
use Rattle.dconf_engine.proofs.engine.Engine.list.Given as goal

-- what is left to add gives what all layers give
abbrev pub invariant-loop-layer : goal.invariant-loop-layer
invariant-loop-layer l =
    with_children (directory_text l.directory) (all_paths (map settings_of (drop l.layer-index l.others))) l.names
    ≡ with_children (directory_text l.directory) (all_paths l.self.layers) empty
