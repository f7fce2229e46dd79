use Rattle.std.proofs.Common.{◌≡◌, ◌∷◌, [], drop, map}
use Rattle.std.specs.FinMap.{empty}
use Rattle.dconf_model.specs.Layers.{all_locks}
use Rattle.dconf_layers.specs.LayerSettings.{settings_of}
use Rattle.dconf_layers.specs.LayerRows.{locks_under}
use Rattle.dconf_layers.specs.TextSets.{with_texts}
use Rattle.dconf_told.proofs.sides.locks_of.Given as goal

-- what is left to add gives what all layers give
abbrev pub invariant-loop-layer : goal.invariant-loop-layer
invariant-loop-layer l =
    with_texts (locks_under (47 ∷ []) (all_locks (map settings_of (drop l.layer-index l.later)))) l.locks
    ≡ with_texts (locks_under (47 ∷ []) (all_locks (drop 1 (map settings_of l.layers)))) empty
