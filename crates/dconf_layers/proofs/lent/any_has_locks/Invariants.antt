use Rattle.std.proofs.Common.{◌≡◌, drop}
use Rattle.std.specs.List.{list_any}
use Rattle.dconf_layers.specs.LayerSettings.{has_locks}
use Rattle.dconf_layers.proofs.lent.any_has_locks.Given as goal

-- those that are left answer for all
abbrev pub invariant-loop-layer : goal.invariant-loop-layer
invariant-loop-layer l = list_any has_locks (drop l.layer-index l.layers) ≡ list_any has_locks l.layers
