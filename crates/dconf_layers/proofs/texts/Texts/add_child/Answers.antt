use Rattle.std.proofs.Common.{◌≡◌, ◌∙◌, ◌++◌, ap, refl, sym, drop, length, cond, true, false}
use Rattle.std.proofs.lemmas.Bool.{false_from_ne_true}
use Rattle.std.proofs.lemmas.Bool.Decides.{Decides-eqb}
use Rattle.std.proofs.lemmas.Slice.Eq.{starts_is}
use Rattle.dconf_model.specs.Locks.{is_below}
use Rattle.dconf_model.specs.Paths.{first_part}
use Rattle.dconf_layers.specs.TextSets.{TextSet, text_set, with_text}
use Rattle.dconf_layers.proofs.TextSetLaws.{one_more}
use Rattle.dconf_layers.proofs.texts.Texts.add_child.Goals as goal

pub returns-in_default : goal.returns-in_default
returns-in_default c =
    let path = c.args.path.now in
    let d = c.args.directory.now in
    let other : is_below path d ≡ false =
    false_from_ne_true (is_below path d) (λ e. c.in_default.ensures.cases (drop (length d) path) ((starts_is Decides-eqb path d (is_below path d) refl).0 e)) in
    rw other refl

pub returns : goal.returns
returns c =
    let path = c.args.path.now in
    let d = c.args.directory.now in
    let texts = c.self.inside.texts.items in
    let h = c.in-Some.ensures.cases in
    let cut : path ≡ d ++ drop h.0 path = h.1.1 in
    let starts : is_below path d ≡ true = (starts_is Decides-eqb path d (is_below path d) refl).1 (drop h.0 path) cut in
    let part = first_part (drop (length d) path) in
    let named = c.in_ok-first_part_of.ensures ∙ ap first_part (h.2 ∙ ap (λ n. drop n path) h.1.0) in
    ap text_set c.in_ok-push.ensures.items ∙ (one_more texts c.in_ok-first_part_of.field-0
    ∙ (ap (with_text (text_set texts)) named ∙ (ap (λ (s : TextSet). with_text s part) c.self.view_is
    ∙ sym (ap (λ b. cond b (with_text c.args.self.now part) c.args.self.now) starts))))
