use Rattle.std.proofs.Common.{◌≡◌, drop, map}
use Rattle.std.specs.Prelude.{filter}
use Rattle.dconf_model.specs.Layers.{all_paths}
use Rattle.dconf_differences.specs.Differing.{differs}
use Rattle.dconf_layers.specs.LayerSettings.{settings_of, seen_in}
use Rattle.dconf_layers.specs.TextSets.{with_texts}
use Rattle.dconf_differences.proofs.differences.Pair.add_layers.Given as goal

-- what is left to add gives what all layers give
abbrev pub invariant-loop-layer : goal.invariant-loop-layer
invariant-loop-layer l =
    with_texts (filter (differs (seen_in l.self.first) (seen_in l.self.second)) (all_paths (map settings_of (drop l.layer-index l.layers.layers.now)))) l.paths
    ≡ with_texts (filter (differs (seen_in l.self.first) (seen_in l.self.second)) (all_paths (map settings_of l.layers.layers.now))) l.initial.paths
