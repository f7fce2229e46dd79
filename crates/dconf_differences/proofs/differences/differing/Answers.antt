use Rattle.std.proofs.Common.{◌≡◌, ◌∙◌, ◌++◌, ap, map}
use Rattle.std.specs.Prelude.{filter, string_bytes}
use Rattle.std.specs.FinMap.{empty, keys}
use Rattle.std.proofs.lemmas.Result.{IfOk-weaker}
use Rattle.dconf_differences.specs.Differing.{AreDiffering, differs, first_keys}
use Rattle.dconf_layers.specs.LayerSettings.{seen_in}
use Rattle.dconf_layers.specs.TextSets.{TextSet, with_texts}
use Rattle.dconf_differences.proofs.DifferingLaws.{are_differing}
use Rattle.dconf_layers.proofs.TextSetLaws.{keys_are_listed}
use Rattle.dconf_differences.proofs.differences.differing.Goals as goal

pub returns : goal.returns
returns c =
    let l = seen_in c.args.first in
    let m = seen_in c.args.second in
    let f = differs l m in
    let asked = first_keys c.args.count l ++ first_keys c.args.count m in
    let all : c.add_all.new.paths ≡ with_texts (filter f asked) empty = c.in_ok-add_all.ensures ∙ ap (with_texts (filter f asked)) c.new-paths.ensures in
    IfOk-weaker c.list.result (λ v. map string_bytes v.items ≡ keys c.add_all.new.paths) (λ v. AreDiffering l m asked (map string_bytes v.items))
    (λ v e. are_differing l m asked (map string_bytes v.items) (e ∙ (ap (λ (s : TextSet). keys s) all ∙ keys_are_listed (filter f asked))))
    c.list.ensures
