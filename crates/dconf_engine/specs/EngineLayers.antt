-- The layers that an engine stands for: what its files say, and of the first what was changed since.
use Rattle.std.specs.Prelude.{List, Bool, map, refl}
use Rattle.std.specs.Coded.{Coded, code_by, coded×, coded_list, coded_bool}
use Rattle.dconf_model.specs.Changes.{with_first_layer}
use Rattle.dconf_model.specs.Layers.{Layers}
use Rattle.dconf_model.specs.Settings.{Settings, settings_code}
use Rattle.dconf_layers.specs.declared.layer.Layer.{Layer}
use Rattle.dconf_layers.specs.LayerSettings.{settings_of}
use Rattle.dconf_engine.specs.Unsaved.{Unsaved, with_changes}

abbrev pub layers_of : Unsaved → List Layer → Bool → Layers
layers_of changes items writable = record { layers = with_first_layer (with_changes changes) (map settings_of items); writable = writable }

abbrev pub layers_code : Coded Layers
layers_code =
    code_by (List Settings × Bool) (coded× (coded_list settings_code) coded_bool)
    (λ l. (l.layers, l.writable)) (λ p. record { layers = p.0; writable = p.1 }) (λ _. refl)
