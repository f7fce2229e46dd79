use Rattle.std.proofs.Common.{◌≡◌, ◌∙◌, ap, arith, sym, List}
use Rattle.std.specs.FinMap.{empty, keys}
use Rattle.std.proofs.Math.ListN.{drop_of_length-le}
use Rattle.std.proofs.lemmas.Result.{IfOk-weaker}
use Rattle.dconf_layers.specs.TextSets.{TextSet, with_texts}
use Rattle.dconf_layers.proofs.TextSetLaws.{keys_are_listed}
use Rattle.dconf_told.specs.Telling.{any_names}
use Rattle.dconf_told.specs.declared.news.DconfdbKeyAsked.{DconfdbKeyAsked}
use Rattle.dconf_told.proofs.news.Telling.asked_of_any.Goals as goal

pub returns : goal.returns
returns c =
    let asked = c.args.self.asked.now in
    let all : c.loop-key.paths ≡ with_texts (any_names asked) empty =
    ap (λ (left : List DconfdbKeyAsked). with_texts (any_names left) c.loop-key.paths) (sym (drop_of_length-le asked (omega (arith, c.loop-key-test.false)))) ∙ c.loop-key.invariant in
    IfOk-weaker c.list.result _ _ (λ v e. e ∙ (ap (λ (s : TextSet). keys s) all ∙ keys_are_listed (any_names asked))) c.list.ensures
