use Rattle.std.proofs.Common.{◌≡◌, ◌++◌, map}
use Rattle.std.specs.Prelude.{string_bytes}
use Rattle.std.specs.List.{All}
use Rattle.std.specs.Vec.Iter.{into_iter_items}
use Rattle.dconf_model.specs.Layers.{all_paths}
use Rattle.dconf_model.specs.Walks.{keys_below}
use Rattle.dconf_path.specs.Paths.{directory_text}
use Rattle.dconf_layers.specs.Children.{IsShown, seen_path}
use Rattle.dconf_layers.specs.LayerSettings.{seen_in}
use Rattle.dconf_layers.proofs.lent.LentLayers.named.Given as goal

abbrev pub invariant-loop-path : goal.invariant-loop-path
invariant-loop-path l = record {
  found : map seen_path l.keys.items ++ map string_bytes (into_iter_items l.path-iterator) ≡ keys_below (all_paths (seen_in l.self).layers) (directory_text l.directory);
  shown : All (IsShown (seen_in l.self)) l.keys.items;
}
