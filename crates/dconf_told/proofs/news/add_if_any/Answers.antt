use Rattle.std.proofs.Common.{◌∙◌, ℕ, List, ap, refl, sym}
use Rattle.std.proofs.lemmas.Result.{on_ok_weaker}
use Rattle.dconf_layers.specs.TextSets.{with_text, with_texts}
use Rattle.dconf_model.proofs.PathMaps.{no_truth}
use Rattle.dconf_told.proofs.TellingLaws.{named_any, no_key_named}
use Rattle.dconf_told.proofs.news.add_if_any.Goals as goal

pub returns-in-Some : goal.returns-in-Some
returns-in-Some c =
    let name = named_any c.args.key (sym c.is_empty.ensures ∙ c.if-not-is_empty.false) (c.in-Some.ensures.some.0 refl) in
    let text = c.as_str.ensures ∙ c.in-Some.ensures.path in
    on_ok_weaker c.add.result (λ e. e ∙ (ap (with_text c.args.paths.now) text ∙ ap (λ (names : List (List ℕ)). with_texts names c.args.paths.now) (sym name))) c.add.ensures

pub returns-in-None : goal.returns-in-None
returns-in-None c =
    sym (ap (λ (names : List (List ℕ)). with_texts names c.args.paths.now) (no_key_named c.args.key (λ k. no_truth (c.in-None.ensures.some.1 k))))
