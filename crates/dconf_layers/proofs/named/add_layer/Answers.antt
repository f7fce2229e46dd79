use Rattle.std.proofs.Common.{◌≡◌, ◌∙◌, ℕ, List, rules}
use Rattle.std.specs.Prelude.{filter}
use Rattle.std.specs.FinMap.{keys}
use Rattle.dconf_model.specs.Locks.{is_below}
use Rattle.dconf_model.proofs.PathMaps.{key_in}
use Rattle.dconf_path.specs.Paths.{directory_text}
use Rattle.dconf_layers.specs.LayerRows.{layer_paths}
use Rattle.dconf_layers.specs.LayerSettings.{settings_of}
use Rattle.dconf_layers.specs.TextSets.{with_texts}
use Rattle.dconf_layers.proofs.EntryLaws.{has_path}
use Rattle.dconf_layers.proofs.TextSetLaws.{passing_alike}
use Rattle.dconf_layers.proofs.named.add_layer.Goals as goal

pub returns : goal.returns
returns c =
    let f = λ (path : List ℕ). is_below path (directory_text c.args.directory) in
    let layer = c.args.layer in
    let values = (settings_of layer).values in
    let all : c.loop-entry.paths ≡ with_texts (filter f (layer_paths layer)) c.args.paths.now = search rules in
    all ∙ passing_alike f (layer_paths layer) (keys values) c.args.paths.now (λ t. has_path layer t ∙ key_in values t)
