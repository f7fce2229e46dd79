use Rattle.std.proofs.Common.{◌≡◌, Some}
use Rattle.dconf_model.specs.Layers.{first_from}
use Rattle.gvdb_read.specs.Lookups.{name_text}
use Rattle.dconf_layers.proofs.Levels.{first_place}
use Rattle.dconf_layers.specs.LayerSettings.{seen_in}
use Rattle.dconf_layers.proofs.lent.LentLayers.place_above.Goals as goal

pub returns-then-level-first : goal.returns-then-level-first
returns-then-level-first c =
    let found : first_from 0 (seen_in c.args.self).layers (name_text c.args.path) ≡ Some (c.args.first, c.args.bytes.now) = c.requires.first in
    first_place (seen_in c.args.self) (name_text c.args.path) (c.args.first, c.args.bytes.now) found (c.level_above-level.ensures.none c.if-level-first.true)
