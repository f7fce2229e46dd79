use Rattle.std.proofs.Common.{◌≡◌, ◌∙◌, ap, refl, rules, false}
use Rattle.dconf_model.specs.Layers.{Layers, place_of}
use Rattle.dconf_path.specs.Paths.{key_text}
use Rattle.dconf_engine.proofs.engine.Engine.default_place.Goals as goal

pub returns-then-self : goal.returns-then-self
returns-then-self c = c.default_place.ensures ∙ ap (λ (l : Layers). place_of l (key_text c.args.path)) (c.lent.ensures.default (search rules))

pub returns : goal.returns
returns c =
    let fixed : c.args.self.now.writable ≡ false = search rules in
    c.place.ensures ∙ rw fixed refl
