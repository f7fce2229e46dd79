use Rattle.std.proofs.Common.{◌∙◌, ap, get_or}
use Rattle.std.specs.FinMap.{get}
use Rattle.dconf_model.specs.Settings.{Settings}
use Rattle.dconf_layers.specs.LayerSettings.{locks_of}
use Rattle.gvdb_read.specs.Lookups.{name_text}
use Rattle.dconf_layers.proofs.Levels.{layer_lent}
use Rattle.dconf_layers.proofs.SoundLayers.{found_in}
use Rattle.dconf_layers.proofs.lent.LentLayers.bytes_at.Goals as goal

pub returns : goal.returns
returns c =
    let item = c.index-self-i.result in
    let layer = get_or c.args.self.layers.now c.args.i item in
    found_in layer.values (locks_of layer) (name_text c.args.path) c.find_hashed_bytes.result layer.sound c.find_hashed_bytes.ensures.found c.find_hashed_bytes.ensures.none
    ∙ ap (λ (s : Settings). get s.values (name_text c.args.path)) (layer_lent c.args.self.layers.now c.args.i item c.requires)
