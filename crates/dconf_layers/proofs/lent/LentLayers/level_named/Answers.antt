use Rattle.dconf_model.specs.Layers.{level}
use Rattle.gvdb_read.specs.Lookups.{name_text}
use Rattle.dconf_layers.proofs.Levels.{told_level}
use Rattle.dconf_layers.specs.LayerSettings.{seen_in}
use Rattle.dconf_layers.proofs.lent.LentLayers.level_named.Goals as goal

pub returns : goal.returns
returns c = told_level c.level_above.result (level (seen_in c.args.self) (name_text c.args.path)) c.level_above.ensures.above c.level_above.ensures.none
