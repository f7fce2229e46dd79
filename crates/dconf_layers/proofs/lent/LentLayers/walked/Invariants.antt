use Rattle.std.proofs.Common.{◌≡◌, ◌++◌}
use Rattle.std.specs.List.{All}
use Rattle.dconf_model.specs.Layers.{all_paths}
use Rattle.dconf_model.specs.Walks.{keys_below}
use Rattle.dconf_path.specs.Paths.{directory_text}
use Rattle.dconf_layers.specs.LayerSettings.{seen_in}
use Rattle.dconf_layers.specs.Children.{IsShown}
use Rattle.dconf_layers.proofs.Walks.{ahead, texts, work}
use Rattle.dconf_layers.proofs.lent.LentLayers.walked.Given as goal

abbrev pub invariant-loop-place : goal.invariant-loop-place
invariant-loop-place l = record {
  found : texts l.keys.items ++ ahead (all_paths (seen_in l.self).layers) l.waiting.items ≡ keys_below (all_paths (seen_in l.self).layers) (directory_text l.directory);
  keys_shown : All (IsShown (seen_in l.self)) l.keys.items;
  waiting_shown : All (IsShown (seen_in l.self)) l.waiting.items;
}

abbrev pub decreases-loop-place : goal.decreases-loop-place
decreases-loop-place l = work (all_paths (seen_in l.self).layers) l.waiting.items
