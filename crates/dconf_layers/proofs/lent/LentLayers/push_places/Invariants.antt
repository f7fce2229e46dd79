use Rattle.std.proofs.Common.{◌≡◌, ◌++◌, reverse, vec_len}
use Rattle.std.specs.List.{All}
use Rattle.dconf_model.specs.Layers.{all_paths}
use Rattle.dconf_model.specs.Walks.{places_in}
use Rattle.dconf_path.specs.Paths.{directory_text}
use Rattle.dconf_layers.specs.LayerSettings.{seen_in}
use Rattle.dconf_layers.specs.Children.{IsShown}
use Rattle.dconf_layers.proofs.Walks.{IsFirst, places, texts}
use Rattle.dconf_layers.proofs.lent.LentLayers.push_places.Given as goal

abbrev pub invariant-loop-child : goal.invariant-loop-child
invariant-loop-child l = record {
  same : texts l.waiting.items ++ reverse (places (directory_text l.directory) l.children.items)
      ≡ texts l.fn.waiting.items ++ reverse (places_in (all_paths (seen_in l.self).layers) (directory_text l.directory));
  first : All (IsFirst (seen_in l.self) (directory_text l.directory)) l.children.items;
  shown : All (IsShown (seen_in l.self)) l.fn.waiting.items → All (IsShown (seen_in l.self)) l.waiting.items;
}

abbrev pub decreases-loop-child : goal.decreases-loop-child
decreases-loop-child l = vec_len l.children
