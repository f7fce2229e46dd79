use Rattle.std.proofs.Common.{◌∙◌, List, ap, map, subst}
use Rattle.std.specs.Prelude.{IfErr, IfOk}
use Rattle.dconf_model.specs.Changes.{saved, with_first_layer}
use Rattle.dconf_model.specs.Databases.{IsDatabaseOf}
use Rattle.dconf_model.specs.Layers.{Layers}
use Rattle.dconf_model.specs.Settings.{Settings}
use Rattle.gvdb_maps.specs.Limits.{IsRefusal}
use Rattle.dconf_layers.specs.LayerSettings.{settings_of}
use Rattle.dconf_engine.specs.Unsaved.{Unsaved, with_changes}
use Rattle.dconf_layers.specs.declared.layer.Layer.{Layer}
use Rattle.dconf_engine.proofs.engine.Engine.save.Goals as goal

pub returns-clause-database : goal.returns-clause-database
returns-clause-database c =
    subst (λ (s : Settings). IfOk c.write-2.result (λ file. IsDatabaseOf s file.items))
    (c.in_ok-user_values.ensures ∙ ap (λ (layers : List Layer). saved (with_first_layer (with_changes c.in_ok-changes.changes) (map settings_of layers))) c.deref.ensures.value
    ∙ ap (λ (changes : Unsaved). saved (with_first_layer (with_changes changes) (map settings_of c.self.inside.layers.items))) c.in_ok-changes.ensures ∙ ap (λ (l : Layers). saved l.layers) c.self.view_is)
    c.write-2.ensures.database

pub returns-clause-fault : goal.returns-clause-fault
returns-clause-fault c =
    subst (λ (s : Settings). IfErr c.write-2.result (IsRefusal s))
    (c.in_ok-user_values.ensures ∙ ap (λ (layers : List Layer). saved (with_first_layer (with_changes c.in_ok-changes.changes) (map settings_of layers))) c.deref.ensures.value
    ∙ ap (λ (changes : Unsaved). saved (with_first_layer (with_changes changes) (map settings_of c.self.inside.layers.items))) c.in_ok-changes.ensures ∙ ap (λ (l : Layers). saved l.layers) c.self.view_is)
    c.write-2.ensures.fault
