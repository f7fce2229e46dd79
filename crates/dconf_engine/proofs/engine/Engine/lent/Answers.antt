use Rattle.std.proofs.Common.{◌≡◌, ◌∙◌, sym, ap, drop, map, List, true}
use Rattle.dconf_model.specs.Layers.{Layers, without_user}
use Rattle.dconf_layers.specs.declared.layer.Layer.{Layer}
use Rattle.dconf_layers.specs.LayerSettings.{settings_of}
use Rattle.dconf_engine.specs.Unsaved.{with_changes}
use Rattle.dconf_engine.proofs.FirstLayer.{default_same, same_later}
use Rattle.dconf_engine.proofs.engine.Engine.lent.Goals as goal

pub returns-clause-later : goal.returns-clause-later
returns-clause-later c =
    let i = c.self.inside in
    ap (λ (l : Layers). drop 1 l.layers) c.new.ensures
    ∙ (ap (λ (ls : List Layer). drop 1 (map settings_of ls)) c.deref.ensures.value
    ∙ (sym (same_later (with_changes i.changes) (map settings_of i.layers.items)) ∙ ap (λ (l : Layers). drop 1 l.layers) c.self.view_is))

pub returns-clause-default : goal.returns-clause-default
returns-clause-default c writable =
    let i = c.self.inside in
    let w : i.writable ≡ true = ap (λ (l : Layers). l.writable) c.self.view_is ∙ writable in
    ap (λ (l : Layers). without_user l) c.new.ensures
    ∙ ap (λ (ls : List Layer). without_user (record { layers = map settings_of ls; writable = i.writable })) c.deref.ensures.value
    ∙ default_same (with_changes i.changes) (map settings_of i.layers.items) i.writable w ∙ ap (λ (l : Layers). without_user l) c.self.view_is
