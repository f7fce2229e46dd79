use Rattle.std.proofs.Common.{◌≡◌, ◌∙◌, drop, eq-eqb, false, length, map, nat_eq, List, Some, None, ap, rules, sym}
use Rattle.std.specs.FinMap.{get}
use Rattle.dconf_model.specs.Layers.{Layers, first_from}
use Rattle.dconf_model.proofs.PathMaps.{no_truth}
use Rattle.dconf_path.specs.Paths.{key_text}
use Rattle.dconf_layers.specs.declared.layer.Layer.{Layer}
use Rattle.dconf_layers.specs.LayerSettings.{settings_of}
use Rattle.dconf_engine.proofs.FirstLayer.{place_reset, place_set, place_unchanged}
use Rattle.dconf_engine.proofs.engine.Engine.first_place.Goals as goal

pub returns-in_default : goal.returns-in_default
returns-in_default c =
    let i = c.self.inside in
    let path = key_text c.args.path in
    let none : get i.changes path ≡ None = search rules in
    c.place_from.ensures ∙ ap (λ (l : Layers). first_from 0 l.layers path) c.new-lent.ensures
    ∙ ap (λ (ls : List Layer). first_from 0 (map settings_of ls) path) c.deref.ensures.value
    ∙ place_unchanged i.changes path c.args.self.now.layers i.layers.items (ap (λ (l : Layers). l.layers) c.self.view_is) none

pub returns-in_default-bytes : goal.returns-in_default-bytes
returns-in_default-bytes c =
    let i = c.self.inside in
    let path = key_text c.args.path in
    let reset : get i.changes path ≡ Some None = search rules in
    c.place_from-in_default-bytes.ensures ∙ ap (λ (l : Layers). first_from 1 (drop 1 l.layers) path) c.new-lent.ensures
    ∙ ap (λ (ls : List Layer). first_from 1 (drop 1 (map settings_of ls)) path) c.deref.ensures.value
    ∙ place_reset i.changes path c.args.self.now.layers i.layers.items (ap (λ (l : Layers). l.layers) c.self.view_is) reset

pub returns : goal.returns
returns c =
    let i = c.self.inside in
    let path = key_text c.args.path in
    let bytes = c.in-Some-bytes.bytes.now in
    let set : get i.changes path ≡ Some (Some bytes) = search rules in
    let some : nat_eq i.layers.len 0 ≡ false = sym c.is_empty.ensures ∙ c.if-is_empty.false in
    let len : i.layers.len ≡ length i.layers.items = sym c.deref.ensures.len ∙ ap (λ (ls : List Layer). length ls) c.deref.ensures.value in
    place_set i.changes path c.args.self.now.layers i.layers.items bytes (ap (λ (l : Layers). l.layers) c.self.view_is) set
    (λ none. no_truth (sym some ∙ eq-eqb i.layers.len 0 (len ∙ ap (λ (ls : List Layer). length ls) none)))
