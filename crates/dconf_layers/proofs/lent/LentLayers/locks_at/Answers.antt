use Rattle.std.proofs.Common.{◌∙◌, ap}
use Rattle.dconf_model.specs.Layers.{locks_path}
use Rattle.dconf_model.specs.Settings.{Settings}
use Rattle.gvdb_read.specs.Lookups.{name_text}
use Rattle.dconf_layers.proofs.Levels.{layer_lent}
use Rattle.dconf_layers.proofs.lent.LentLayers.locks_at.Goals as goal

pub returns : goal.returns
returns c =
    c.locks_path.ensures
    ∙ ap (λ (s : Settings). locks_path (name_text c.args.path) s) (layer_lent c.args.self.layers.now c.args.i c.index-self-i.result c.requires.within)
