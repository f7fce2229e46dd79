use Rattle.std.proofs.Common.{◌≡◌, drop, map}
use Rattle.std.specs.Prelude.{filter}
use Rattle.dconf_model.specs.Layers.{all_paths}
use Rattle.dconf_model.specs.Locks.{is_below}
use Rattle.dconf_path.specs.Paths.{directory_text}
use Rattle.dconf_layers.specs.LayerSettings.{settings_of}
use Rattle.dconf_layers.specs.TextSets.{with_texts}
use Rattle.dconf_layers.proofs.named.add_layers.Given as goal

-- what is left to add gives what all layers give
abbrev pub invariant-loop-layer : goal.invariant-loop-layer
invariant-loop-layer l =
    with_texts (filter (λ path. is_below path (directory_text l.directory)) (all_paths (map settings_of (drop l.layer-index l.layers)))) l.paths
    ≡ with_texts (filter (λ path. is_below path (directory_text l.directory)) (all_paths (map settings_of l.layers))) l.initial.paths
