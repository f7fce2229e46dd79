use Rattle.std.proofs.Common.{rules, ◌≡◌, ◌∙◌, [], ◌∷◌, ap, cond, false, sym}
use Rattle.dconf_model.specs.Paths.{starts_with_slash}
use Rattle.dconf_texts.specs.Kinds.{kind_of}
use Rattle.dconf_texts.specs.declared.kinds.PathKind.TheVariants.{Absolute}
use Rattle.dconf_texts.proofs.KindLaws.{behind_slash, empty_below, is_empty}
use Rattle.dconf_texts.proofs.kinds.kind_below.Goals as goal

pub returns-then-is_empty : goal.returns-then-is_empty
returns-then-is_empty c = empty_below c.args.text.now (search rules)

pub returns : goal.returns
returns c =
    let text = c.args.text.now in
    let starts : starts_with_slash text ≡ false = search rules in
    let some : text ≡ [] → ⊥ = λ e. is_empty text c.is_empty.result c.is_empty.ensures c.if-is_empty.false e in
    c.kind_after_slash.ensures ∙ (behind_slash text starts some ∙ sym (ap (λ b. cond b Absolute (kind_of (47 ∷ text))) starts))
