use Rattle.std.proofs.Common.{◌∙◌, ap, rules}
use Rattle.dconf_model.specs.Layers.{place_of, without_user}
use Rattle.gvdb_read.specs.Lookups.{name_text}
use Rattle.dconf_layers.specs.LayerSettings.{seen_in}
use Rattle.dconf_layers.proofs.Levels.{default_low}
use Rattle.dconf_layers.proofs.lent.LentLayers.default_place.Goals as goal

pub returns-then-level-eq0 : goal.returns-then-level-eq0
returns-then-level-eq0 c =
    let name = c.hashed-name.result in
    c.place_named.ensures
    ∙ (default_low (seen_in c.args.self) (name_text name) c.level_named-level.result (search rules) (search rules) c.level_named-level.ensures
    ∙ ap (place_of (without_user (seen_in c.args.self))) c.hashed-name.ensures.name)
