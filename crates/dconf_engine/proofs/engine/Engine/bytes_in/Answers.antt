use Rattle.std.proofs.Common.{◌∙◌, List, ap, length, refl, slice_get, sym}
use Rattle.std.specs.FinMap.{get}
use Rattle.std.proofs.lemmas.Option.{slice_get_read}
use Rattle.dconf_model.specs.Layers.{Layers}
use Rattle.dconf_path.specs.Paths.{key_text}
use Rattle.dconf_layers.specs.declared.layer.Layer.{Layer}
use Rattle.dconf_layers.specs.LayerSettings.{settings_of}
use Rattle.dconf_engine.proofs.FirstLayer.{bytes_later}
use Rattle.dconf_engine.proofs.engine.Engine.bytes_in.Goals as goal

pub returns-else-i-eq0 : goal.returns-else-i-eq0
returns-else-i-eq0 c =
    let i = c.self.inside in
    let lent = c.deref.result.now in
    let layer = c.in-Some.layer.now in
    c.get-else-i-eq0.ensures ∙ (ap (λ p. get (settings_of layer).values p) c.as_str.ensures
    ∙ bytes_later i.changes i.layers.items c.args.i layer (key_text c.args.path) c.args.self.now.layers c.if-i-eq0.false
    (ap (λ (l : List Layer). slice_get l c.args.i) (sym c.deref.ensures.value)
    ∙ slice_get_read lent (length lent) c.args.i layer refl c.in-Some.ensures.lookup.3.0 c.in-Some.ensures.lookup.1)
    (ap (λ (l : Layers). l.layers) c.self.view_is))
