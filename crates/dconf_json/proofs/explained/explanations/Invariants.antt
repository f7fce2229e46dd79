use Rattle.std.proofs.Common.{◌≡◌, map, string_bytes, take}
use Rattle.dconf_path.specs.Profiles.{databases_of}
use Rattle.dconf_layers.specs.Children.{seen_path}
use Rattle.dconf_layers.specs.LayerSettings.{seen_in}
use Rattle.dconf_json.specs.Explained.{explanations}
use Rattle.dconf_json.proofs.explained.explanations.Given as goal

abbrev pub invariant-loop-key : goal.invariant-loop-key
invariant-loop-key l = string_bytes l.text ≡ explanations (databases_of l.profile) (seen_in l.layers) (map seen_path (take l.key-index l.keys))
