use Rattle.std.proofs.Common.{◌-◌, ◌≤◌, length}
use Rattle.dconf_model.specs.Layers.{locks_path}
use Rattle.gvdb_read.specs.Lookups.{name_text}
use Rattle.dconf_layers.proofs.Levels.{NoneFrom}
use Rattle.dconf_layers.specs.LayerSettings.{seen_in}
use Rattle.dconf_layers.proofs.lent.LentLayers.level_above.Given as goal

-- no layer from this one on locks the path
abbrev pub invariant-loop-i : goal.invariant-loop-i
invariant-loop-i l = record {
  within : l.i ≤ length (seen_in l.self).layers;
  none : NoneFrom (locks_path (name_text l.path)) (seen_in l.self).layers l.i;
}

abbrev pub decreases-loop-i : goal.decreases-loop-i
decreases-loop-i l = l.i - 1
