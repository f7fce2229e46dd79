use Rattle.std.specs.Prelude.{map, string_bytes}
use Rattle.std.proofs.Common.{◌≡◌, ◌∙◌, ◌∷◌, List, ap, drop, rules}
use Rattle.dconf_model.specs.Layers.{Layers}
use Rattle.dconf_model.specs.Settings.{Settings}
use Rattle.dconf_layers.specs.LayerSettings.{seen_in, settings_of}
use Rattle.dconf_layers.specs.declared.layer.Layer.{Layer}
use Rattle.dconf_told.specs.Telling.{after_first}
use Rattle.dconf_told.proofs.OthersLaws.{first_given}
use Rattle.dconf_told.proofs.news.told_of_first.Goals as goal

pub list_of_few-requires : goal.list_of_few-requires
list_of_few-requires c =
    let s = settings_of c.args.first in
    let others = map settings_of c.in-Some.field-0-1.now in
    let layers : c.args.after.layers.now ≡ c.in-Some.newer.now ∷ c.in-Some.field-0-1.now = search rules in
    let after : (seen_in c.args.after).layers ≡ settings_of c.in-Some.newer.now ∷ others = ap (λ (ls : List Layer). map settings_of ls) layers in
    let before : (seen_in c.new.result).layers ≡ s ∷ others =
    ap (λ (l : Layers). l.layers) c.new.ensures ∙ (ap (map settings_of) c.deref.ensures.value ∙ (c.in_ok-layers.ensures ∙ ap (λ (ls : List Settings). s ∷ drop 1 ls) after)) in
    record { others = others; first = before; second = after }

pub list-requires : goal.list-requires
list-requires c =
    let s = settings_of c.args.first in
    let m = seen_in c.args.after in
    let w = c.args.was_writable in
    let before : seen_in c.new.result ≡ after_first w s m =
    c.new.ensures ∙ ap (λ (ls : List Settings). (let one : Layers = record { layers = ls; writable = w } in one)) (ap (map settings_of) c.deref.ensures.value ∙ c.in_ok-layers.ensures) in
    first_given w s (seen_in c.new.result) m (map string_bytes c.as_slice.result.now) (map string_bytes c.in_ok-others.others.items) before
    (ap (map string_bytes) c.as_slice.ensures.value) c.in_ok-others.ensures
