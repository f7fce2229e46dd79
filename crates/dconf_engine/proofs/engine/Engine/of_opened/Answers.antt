use Rattle.std.proofs.Common.{◌∙◌, ap, map}
use Rattle.dconf_model.specs.Changes.{with_first_layer}
use Rattle.dconf_layers.specs.LayerSettings.{settings_of}
use Rattle.dconf_engine.specs.Unsaved.{Unsaved, with_changes}
use Rattle.dconf_engine.proofs.FirstLayer.{unchanged}
use Rattle.dconf_engine.proofs.engine.Engine.of_opened.Goals as goal

pub returns : goal.returns
returns c =
    let xs = map settings_of c.args.layers.items in
    λ i. record { layers = (ap (λ (u : Unsaved). with_first_layer (with_changes u) xs) c.new-changes.ensures ∙ unchanged xs) i; writable = c.args.writable }
