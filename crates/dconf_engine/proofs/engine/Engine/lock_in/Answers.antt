use Rattle.std.proofs.Common.{◌∙◌, List, ap, length, refl, slice_get, sym}
use Rattle.std.proofs.lemmas.Option.{slice_get_past, slice_get_read}
use Rattle.dconf_model.specs.Layers.{Layers}
use Rattle.dconf_path.specs.Paths.{key_text}
use Rattle.dconf_layers.specs.declared.layer.Layer.{Layer}
use Rattle.dconf_engine.proofs.FirstLayer.{lock_later, no_lock_later}
use Rattle.dconf_engine.proofs.engine.Engine.lock_in.Goals as goal

pub returns-in-Some : goal.returns-in-Some
returns-in-Some c =
    let i = c.self.inside in
    let lent = c.deref.result.now in
    let layer = c.in-Some.layer.now in
    c.lock_of.ensures
    ∙ lock_later i.changes i.layers.items c.args.i layer (key_text c.args.path) c.args.self.now c.if-i-eq0.false
    (ap (λ (l : List Layer). slice_get l c.args.i) (sym c.deref.ensures.value)
    ∙ slice_get_read lent (length lent) c.args.i layer refl c.in-Some.ensures.lookup.3.0 c.in-Some.ensures.lookup.1)
    (ap (λ (l : Layers). l.layers) c.self.view_is)

pub returns-in-None : goal.returns-in-None
returns-in-None c =
    let i = c.self.inside in
    let lent = c.deref.result.now in
    no_lock_later i.changes i.layers.items c.args.i (key_text c.args.path) c.args.self.now c.if-i-eq0.false
    (ap (λ (l : List Layer). slice_get l c.args.i) (sym c.deref.ensures.value) ∙ slice_get_past lent c.args.i c.in-None.ensures.lookup.3)
    (ap (λ (l : Layers). l.layers) c.self.view_is)
