use Rattle.std.proofs.Common.{rules, ◌≡◌, ◌∷◌, List, map, ap}
use Rattle.dconf_layers.specs.declared.layer.Layer.{Layer}
use Rattle.dconf_layers.specs.LayerSettings.{seen_in, settings_of}
use Rattle.dconf_differences.proofs.TwinLaws.{passes_alike, passes_back, twins_of}
use Rattle.dconf_differences.specs.Differing.{differs}
use Rattle.dconf_differences.proofs.differences.Pair.add_first.Goals as goal

pub add_twin-requires : goal.add_twin-requires
add_twin-requires c =
    let l = seen_in c.args.self.first in
    let m = seen_in c.args.self.second in
    let s = settings_of c.in-Some.layer.now in
    let t = settings_of c.args.first in
    let layers : c.args.self.first.layers.now ≡ c.in-Some.layer.now ∷ c.in-Some.field-0-1.now = search rules in
    rw (c.new-twins.ensures.layer, c.new-twins.ensures.other)
    (passes_alike l m s t (twins_of l m s t (map settings_of c.in-Some.field-0-1.now) (ap (λ (ls : List Layer). map settings_of ls) layers) c.requires))

pub add_twin-requires-2 : goal.add_twin-requires-2
add_twin-requires-2 c =
    let l = seen_in c.args.self.first in
    let m = seen_in c.args.self.second in
    let s = settings_of c.in-Some.layer.now in
    let t = settings_of c.args.first in
    let layers : c.args.self.first.layers.now ≡ c.in-Some.layer.now ∷ c.in-Some.field-0-1.now = search rules in
    rw (c.turned.ensures.layer, c.turned.ensures.other, c.new-twins.ensures.layer, c.new-twins.ensures.other)
    (passes_back (differs l m) s t (passes_alike l m s t (twins_of l m s t (map settings_of c.in-Some.field-0-1.now) (ap (λ (ls : List Layer). map settings_of ls) layers) c.requires)))
