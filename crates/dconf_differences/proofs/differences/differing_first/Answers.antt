use Rattle.std.proofs.Common.{◌≡◌, ◌∙◌, ◌++◌, ◌∷◌, ap, map, rules}
use Rattle.std.specs.Prelude.{drop, filter, string_bytes}
use Rattle.std.specs.FinMap.{empty, keys}
use Rattle.std.proofs.lemmas.Result.{IfOk-weaker}
use Rattle.dconf_model.specs.Layers.{Layers}
use Rattle.dconf_differences.specs.Differing.{AreDiffering, differs, first_keys, with_first}
use Rattle.dconf_layers.specs.LayerSettings.{settings_of, seen_in}
use Rattle.dconf_layers.specs.TextSets.{TextSet, with_texts}
use Rattle.dconf_differences.proofs.DifferingLaws.{are_differing, other_first}
use Rattle.dconf_layers.proofs.TextSetLaws.{keys_are_listed}
use Rattle.dconf_differences.proofs.differences.differing_first.Goals as goal

pub returns : goal.returns
returns c =
    let l = seen_in c.args.layers in
    let s = settings_of c.args.first in
    let m = with_first l s in
    let asked = first_keys 1 l ++ keys s.values in
    let others : map settings_of c.in_ok-others.others.items ≡ s ∷ drop 1 l.layers = search rules in
    let lent : (seen_in c.new.result).layers ≡ map settings_of c.in_ok-others.others.items = search rules in
    let writable : (seen_in c.new.result).writable ≡ l.writable = search rules in
    let second : seen_in c.new.result ≡ m = other_first (seen_in c.new.result) l s (lent ∙ others) writable in
    let all : c.add_first.new.paths ≡ with_texts (filter (differs l m) asked) empty =
    c.in_ok-add_first.ensures ∙ (ap (λ (n : Layers). with_texts (filter (differs l n) asked) c.new-paths.result) second ∙ ap (with_texts (filter (differs l m) asked)) c.new-paths.ensures) in
    IfOk-weaker c.list.result (λ v. map string_bytes v.items ≡ keys c.add_first.new.paths) (λ v. AreDiffering l m asked (map string_bytes v.items))
    (λ v e. are_differing l m asked (map string_bytes v.items) (e ∙ (ap (λ (t : TextSet). keys t) all ∙ keys_are_listed (filter (differs l m) asked))))
    c.list.ensures
